-- Children as chains of links: each link points to an older one. (own)
use Rattle.std.specs.Prelude.{ℕ, ◌<◌, ◌==◌, List, [], ◌∷◌, length, map, reverse, Option, Some, None, if◌then◌else◌, vec_capacity}
use Rattle.event_arena.specs.Families.{Families}
use Rattle.event_arena.specs.declared.links.Link.{Link}
use Rattle.event_arena.specs.declared.links.Links.TheInside as links
use Rattle.event_arena.specs.declared.links.Children.TheInside as children

-- ---- what links say

-- the chain from a link on, if there is one
abbrev pub follow : (ℕ → List ℕ) → Option ℕ → List ℕ
follow chain None = []
follow chain (Some k) = chain k

-- the children from the link at a place on, among links with the youngest first; places count from the oldest
abbrev pub chain_at : List Link → ℕ → List ℕ
chain_at [] k = []
chain_at (l ∷ older) k = if k == length older then l.child ∷ follow (chain_at older) l.next else chain_at older k

-- the links as what contracts see of them
abbrev pub families : links.Inside → Families
families s = record {
  lists = map (follow (chain_at (reverse s.links.items))) s.heads.items;
  used = length s.links.items;
  place_room = vec_capacity s.heads;
  link_room = vec_capacity s.links;
}

-- the children that are still to come
abbrev pub chain_left : children.Inside → List ℕ
chain_left s = follow (chain_at (reverse s.links.now)) s.at

-- ---- what is true of links

-- if there is a link, it is one of the first n
abbrev pub IsBelow : ℕ → Option ℕ → Type 0
IsBelow n None = Unit {0}
IsBelow n (Some k) = k < n

-- each link points to an older one, among links with the youngest first
abbrev pub AreBack : List Link → Type 0
AreBack [] = Unit {0}
AreBack (l ∷ older) = IsBelow (length older) l.next × AreBack older

-- each is one of the first n
abbrev pub AllBelow : ℕ → List (Option ℕ) → Type 0
AllBelow n [] = Unit {0}
AllBelow n (h ∷ hs) = IsBelow n h × AllBelow n hs

-- heads and links point to links that are there
pub record AreChains (s : links.Inside) : Type 0 where
  pub heads : AllBelow (length s.links.items) s.heads.items
  pub back : AreBack (reverse s.links.items)

-- so does a walk along a chain
pub record IsChain (s : children.Inside) : Type 0 where
  pub here : IsBelow (length s.links.now) s.at
  pub back : AreBack (reverse s.links.now)
