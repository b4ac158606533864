-- What is kept of the events so far and the one that is being read, by where a stream is.
use Rattle.std.proofs.Common.{◌≡◌, ℕ, Bool, true, false, List, [], ◌∷◌, ◌++◌, Option, Some, None, refl, sym, ap, subst, ◌∙◌, inl, unwrap_or}
use Rattle.std.specs.Prelude.{IfSome, is_some}
use Rattle.std.specs.List.{AllByRecursion}
use Rattle.plain_model.specs.declared.id.AnyId.TheVariants as any
use Rattle.plain_model.specs.declared.person.Signed.{Signed}
use Rattle.plain_model.specs.declared.event.PlainEvent.{PlainEvent}
use Rattle.plain_model.specs.declared.event.PlainEvent.TheVariants.{Blob, Commit, Tag, Reset}
use Rattle.plain_model.specs.Histories.{Past, begun, folded, tree_in}
use Rattle.plain_model.specs.Marks.{IsMark}
use Rattle.plain_model.specs.Names.{is_name}
use Rattle.plain_model.specs.Paths.{Bytes}
use Rattle.plain_model.specs.Soundness.{IsCommitOf, IsFormedSigned, RefersBack, has_id}
use Rattle.plain_model.specs.Trees.{TreeOf, at}
use Rattle.stream_grammar.specs.declared.lines.Expected.{Expected}
use Rattle.stream_grammar.specs.declared.lines.Expected.TheVariants as expected
use Rattle.stream_grammar.specs.Known.{Known, OpenCommit, Open, next_id, with_event, closed, closed_commit, with_data}
use Rattle.stream_grammar.specs.Known.Open.{Nothing, ABlob, ACommit, ATag, AReset, AnAlias}
use Rattle.stream_grammar.specs.Lines.{is_required, is_inline_expected}
use Rattle.history_laws.proofs.Ids.{has_id_append, has_id_still}
use Rattle.history_laws.proofs.Commits.{refs_append}
use Rattle.history_laws.proofs.Lists.{all_imply}
use Rattle.soundness_laws.proofs.Ids.{past_same}
use Rattle.soundness_laws.proofs.SoFar.{IsMarkYet, IsCommitSoFar, IsWellEvent, AreWell, well_more, refers_imply}

-- ---- what is kept

-- the event that is being read, after the others; its operations name blobs among those that are seen
abbrev pub IsOpenWell : List PlainEvent → List PlainEvent → Open → Type 0
IsOpenWell events seen Nothing = Unit {0}
IsOpenWell events seen (ABlob mark) = IsMarkYet mark
IsOpenWell events seen (ACommit c) = IsCommitSoFar events seen c
IsOpenWell events seen (ATag name target tagger mark) = (is_name name ≡ true) × IfSome tagger IsFormedSigned × IfSome mark IsMark
IsOpenWell events seen (AReset branch target) = (is_name branch ≡ true) × IfSome target (IsCommitOf events)
IsOpenWell events seen (AnAlias mark) = Unit {0}

-- a tag has its commit
abbrev pub HasTarget : List PlainEvent → Open → Type 0
HasTarget events (ATag name target tagger mark) = IsCommitOf events target
HasTarget events Nothing = Unit {0}
HasTarget events (ABlob mark) = Unit {0}
HasTarget events (ACommit c) = Unit {0}
HasTarget events (AReset branch target) = Unit {0}
HasTarget events (AnAlias mark) = Unit {0}

-- an alias has its mark
abbrev pub HasMark : Open → Type 0
HasMark (AnAlias mark) = IsMark mark
HasMark Nothing = Unit {0}
HasMark (ABlob mark) = Unit {0}
HasMark (ACommit c) = Unit {0}
HasMark (ATag name target tagger mark) = Unit {0}
HasMark (AReset branch target) = Unit {0}

-- a commit has no operations yet
abbrev pub HasNoOps : Open → Type 0
HasNoOps (ACommit c) = c.ops ≡ []
HasNoOps Nothing = Unit {0}
HasNoOps (ABlob mark) = Unit {0}
HasNoOps (ATag name target tagger mark) = Unit {0}
HasNoOps (AReset branch target) = Unit {0}
HasNoOps (AnAlias mark) = Unit {0}

-- the events with the blob whose bytes follow
abbrev pub awaited : List PlainEvent → List PlainEvent
awaited events = with_event events (Blob (next_id events) 0 [])

-- the blobs that operations may name: where bytes are expected, theirs too
abbrev pub seen_at : Expected → List PlainEvent → List PlainEvent
seen_at expected.InlineData events = awaited events
seen_at _ events = events

-- what an expected line needs
abbrev pub Needs : Expected → List PlainEvent → Open → Type 0
Needs expected.Event events o = Unit {0}
Needs expected.BlobMark events o = HasTarget events o
Needs expected.BlobOid events o = HasTarget events o
Needs expected.BlobData events o = HasTarget events o
Needs expected.CommitMark events o = HasTarget events o × HasNoOps o
Needs expected.CommitOid events o = HasTarget events o × HasNoOps o
Needs expected.CommitAuthor events o = HasTarget events o × HasNoOps o
Needs expected.CommitCommitter events o = HasTarget events o × HasNoOps o
Needs expected.CommitEncoding events o = HasTarget events o × HasNoOps o
Needs expected.CommitData events o = HasTarget events o × HasNoOps o
Needs expected.CommitFrom events o = HasTarget events o × HasNoOps o
Needs expected.CommitMerge events o = HasTarget events o
Needs expected.CommitOperation events o = HasTarget events o
Needs expected.InlineData events o = HasTarget events o
Needs expected.TagMark events o = HasNoOps o
Needs expected.TagFrom events o = HasNoOps o
Needs expected.TagOid events o = HasTarget events o
Needs expected.TagTagger events o = HasTarget events o
Needs expected.TagData events o = HasTarget events o
Needs expected.ResetFrom events o = HasNoOps o
Needs expected.ResetEnd events o = Unit {0}
Needs expected.AliasMark events o = Unit {0}
Needs expected.AliasTo events o = HasMark o

-- the events, and the aliases, each with its mark and one of the commits
pub record AreSoFar (events : List PlainEvent) (aliases : List (ℕ × ℕ)) : Type 0 where
  pub well : AreWell events
  pub aliased : AllByRecursion (λ a. IsMark a.0 × IsCommitOf events a.1) aliases

-- one event more
pub one_more : (events : List PlainEvent) (aliases : List (ℕ × ℕ)) (e : PlainEvent) → AreSoFar events aliases → IsWellEvent events e → AreSoFar (with_event events e) aliases
one_more events aliases e h w = record {
  well = well_more events e h.well w;
  aliased = all_imply (λ a. IsMark a.0 × IsCommitOf events a.1) (λ a. IsMark a.0 × IsCommitOf (with_event events e) a.1) (λ a x. (x.0, has_id_still events (e ∷ []) (any.Commit a.1) x.1)) aliases h.aliased;
}

-- where a line is expected
pub record IsReady (d : Expected) (events : List PlainEvent) (o : Open) (aliases : List (ℕ × ℕ)) : Type 0 where
  pub so_far : AreSoFar events aliases
  pub current : IsOpenWell events (seen_at d events) o
  pub needs : Needs d events o

-- where a block arrives
abbrev pub Arrives : Expected → Type 0
Arrives expected.Event = Unit {0}
Arrives expected.CommitFrom = Unit {0}
Arrives expected.CommitOperation = Unit {0}
Arrives _ = ⊥

abbrev pub seen_if : Bool → List PlainEvent → List PlainEvent
seen_if true events = awaited events
seen_if false events = events

-- where a block is expected
pub record IsAwaiting (d : Expected) (events : List PlainEvent) (o : Open) (aliases : List (ℕ × ℕ)) : Type 0 where
  pub so_far : AreSoFar events aliases
  pub current : IsOpenWell events (seen_if (is_inline_expected d) events) o
  pub needs : Needs d events o
  pub target : HasTarget events o
  pub arrives : Arrives d

abbrev pub ready : Expected → Known → Type 0
ready d k = IsReady d k.events k.current k.aliases

abbrev pub awaiting : Expected → Known → Type 0
awaiting d k = IsAwaiting d k.events k.current k.aliases

-- ---- the end of an event

-- where an event can end, no bytes are expected
pub seen_same : (d : Expected) (events : List PlainEvent) → is_required d ≡ false → seen_at d events ≡ events
seen_same expected.InlineData events e = absurd cc
seen_same _ events e = refl

author_or : (author : Option Signed) (who : Signed) → IfSome author IsFormedSigned → IsFormedSigned who → IsFormedSigned (unwrap_or author who)
author_or None who a h = h
author_or (Some author) who a h = a

commit_closed : (events : List PlainEvent) (aliases : List (ℕ × ℕ)) (c : OpenCommit) (committer : Option Signed) → AreSoFar events aliases → IsCommitSoFar events events c → IfSome committer IsFormedSigned
    → AreSoFar (closed_commit events c committer) aliases
commit_closed events aliases c None h w who = h
commit_closed events aliases c (Some committer) h w who =
    one_more events aliases (Commit (next_id events) c.mark c.branch (unwrap_or c.author committer) committer c.encoding c.comment c.parents c.ops []) h (
      refl,
      record {
        named = w.named;
        marked = w.marked;
        authored = author_or c.author committer w.authored who;
        committed = who;
        encoded = w.encoded;
        linked = w.linked;
        apart = w.apart;
        few = w.few;
        referring = w.referring;
        pathed = w.pathed;
        has_tree = w.has_tree;
        rooted = w.rooted;
      },
    )

closed_well : (events : List PlainEvent) (o : Open) (aliases : List (ℕ × ℕ)) → AreSoFar events aliases → IsOpenWell events events o → AreSoFar (closed (record { events = events; current = o; aliases = aliases })) aliases
closed_well events Nothing aliases h w = h
closed_well events (ABlob mark) aliases h w = h
closed_well events (ACommit c) aliases h w = commit_closed events aliases c c.committer h w w.committed
closed_well events (ATag name target tagger mark) aliases h w = h
closed_well events (AReset branch target) aliases h w = one_more events aliases (Reset (next_id events) branch target) h (refl, w.0, w.1)
closed_well events (AnAlias mark) aliases h w = h

-- what is known to be so far, with the event that was read last
abbrev pub AreKnown : Known → Type 0
AreKnown k = AreSoFar (closed k) k.aliases

pub ready_closed : (d : Expected) (k : Known) → ready d k → is_required d ≡ false → AreKnown k
ready_closed d k h e = closed_well k.events k.current k.aliases h.so_far (subst (λ (seen : List PlainEvent). IsOpenWell k.events seen k.current) (seen_same d k.events e) h.current)

-- ---- a block

-- the blob is there, whatever its bytes
blob_there : (events : List PlainEvent) (id : ℕ) (bytes : Bytes) (b : ℕ) → has_id (events ++ Blob id 0 [] ∷ []) (any.Blob b) ≡ true → has_id (events ++ Blob id 0 bytes ∷ []) (any.Blob b) ≡ true
blob_there events id bytes b h = has_id_append events (Blob id 0 bytes ∷ []) (any.Blob b) ∙ sym (has_id_append events (Blob id 0 [] ∷ []) (any.Blob b)) ∙ h

-- a commit whose operation has its bytes
commit_arrived : (events : List PlainEvent) (bytes : Bytes) (c : OpenCommit) → IsCommitSoFar events (awaited events) c
    → IsCommitSoFar (with_event events (Blob (next_id events) 0 bytes)) (with_event events (Blob (next_id events) 0 bytes)) c
commit_arrived events bytes c w =
    let e : PlainEvent = Blob (next_id events) 0 bytes in
    record {
      named = w.named;
      marked = w.marked;
      authored = w.authored;
      committed = w.committed;
      encoded = w.encoded;
      linked = all_imply (IsCommitOf events) (IsCommitOf (events ++ e ∷ [])) (λ p h. has_id_still events (e ∷ []) (any.Commit p) h) c.parents w.linked;
      apart = w.apart;
      few = w.few;
      referring = all_imply (RefersBack (awaited events)) (RefersBack (events ++ e ∷ [])) (refers_imply (awaited events) (events ++ e ∷ []) (blob_there events (next_id events) bytes)) c.ops w.referring;
      pathed = w.pathed;
      has_tree = subst (λ (p : Past). is_some (folded c.ops (begun (tree_in p) c.parents)) ≡ true) (sym (past_same events e refl)) w.has_tree;
      rooted = λ none. ap (λ (t : TreeOf ℕ). at t c.branch) (refs_append [] events (e ∷ [])) ∙ w.rooted none;
    }

-- the comment of a commit
commented : (events seen : List PlainEvent) (bytes : Bytes) (c : OpenCommit) → IsCommitSoFar events seen c → IsCommitSoFar events seen (record c { comment = bytes })
commented events seen bytes c w = record {
  named = w.named;
  marked = w.marked;
  authored = w.authored;
  committed = w.committed;
  encoded = w.encoded;
  linked = w.linked;
  apart = w.apart;
  few = w.few;
  referring = w.referring;
  pathed = w.pathed;
  has_tree = w.has_tree;
  rooted = w.rooted;
}

module _ (events : List PlainEvent) (aliases : List (ℕ × ℕ)) (bytes : Bytes) where
  abbrev known : Open → Known
  known o = record { events = events; current = o; aliases = aliases }

  -- a blob or a tag is one of the events
  blob_arrived : (mark : ℕ) → AreSoFar events aliases → IsMarkYet mark → AreSoFar (with_event events (Blob (next_id events) mark bytes)) aliases
  blob_arrived mark h fits = one_more events aliases (Blob (next_id events) mark bytes) h (refl, fits)

  tag_arrived : (name : Bytes) (target : ℕ) (tagger : Option Signed) (mark : Option ℕ) → AreSoFar events aliases → IsOpenWell events events (ATag name target tagger mark) → IsCommitOf events target
      → AreSoFar (with_event events (Tag (next_id events) name target tagger bytes mark)) aliases
  tag_arrived name target tagger mark h w there = one_more events aliases (Tag (next_id events) name target tagger bytes mark) h (refl, w.0, there, w.1, w.2)

  -- between events
  arrived_between : (o : Open) → IsAwaiting expected.Event events o aliases → ready expected.Event (with_data false bytes (known o))
  arrived_between Nothing h = record { so_far = h.so_far; current = tt; needs = tt }
  arrived_between (ABlob mark) h = record { so_far = blob_arrived mark h.so_far h.current; current = tt; needs = tt }
  arrived_between (ACommit c) h = record { so_far = h.so_far; current = commented events events bytes c h.current; needs = tt }
  arrived_between (ATag name target tagger mark) h = record { so_far = tag_arrived name target tagger mark h.so_far h.current h.target; current = tt; needs = tt }
  arrived_between (AReset branch target) h = record { so_far = h.so_far; current = h.current; needs = tt }
  arrived_between (AnAlias mark) h = record { so_far = h.so_far; current = tt; needs = tt }

  -- after a commit's comment
  arrived_comment : (o : Open) → IsAwaiting expected.CommitFrom events o aliases → ready expected.CommitFrom (with_data false bytes (known o))
  arrived_comment Nothing h = record { so_far = h.so_far; current = tt; needs = (tt, tt) }
  arrived_comment (ABlob mark) h = record { so_far = blob_arrived mark h.so_far h.current; current = tt; needs = (tt, tt) }
  arrived_comment (ACommit c) h = record { so_far = h.so_far; current = commented events events bytes c h.current; needs = (tt, h.needs.1) }
  arrived_comment (ATag name target tagger mark) h = record { so_far = tag_arrived name target tagger mark h.so_far h.current h.target; current = tt; needs = (tt, tt) }
  arrived_comment (AReset branch target) h = record { so_far = h.so_far; current = h.current; needs = (tt, tt) }
  arrived_comment (AnAlias mark) h = record { so_far = h.so_far; current = tt; needs = (tt, tt) }

  -- after an operation
  arrived_inline : (o : Open) → IsAwaiting expected.CommitOperation events o aliases → ready expected.CommitOperation (with_data true bytes (known o))
  arrived_inline Nothing h = record { so_far = h.so_far; current = tt; needs = tt }
  arrived_inline (ABlob mark) h = record { so_far = blob_arrived mark h.so_far h.current; current = tt; needs = tt }
  arrived_inline (ACommit c) h = record { so_far = blob_arrived 0 h.so_far (inl refl); current = commit_arrived events bytes c h.current; needs = tt }
  arrived_inline (ATag name target tagger mark) h = record { so_far = tag_arrived name target tagger mark h.so_far h.current h.target; current = tt; needs = tt }
  arrived_inline (AReset branch target) h = record { so_far = h.so_far; current = h.current; needs = tt }
  arrived_inline (AnAlias mark) h = record { so_far = h.so_far; current = tt; needs = tt }

-- the block is there
pub arrived_ready : (d : Expected) (k : Known) (bytes : Bytes) → awaiting d k → ready d (with_data (is_inline_expected d) bytes k)
arrived_ready expected.Event k bytes h = arrived_between k.events k.aliases bytes k.current h
arrived_ready expected.CommitFrom k bytes h = arrived_comment k.events k.aliases bytes k.current h
arrived_ready expected.CommitOperation k bytes h = arrived_inline k.events k.aliases bytes k.current h
arrived_ready _ k bytes h = absurd h.arrives
