use Rattle.std.proofs.Common.{◌≡◌, ◌++◌, drop}
use Rattle.listing.specs.Listings.{lines_of}
use Rattle.listing.specs.TreeListings.{manifest_lines}
use Rattle.manifest_cache.specs.Kept.{AgreesWith}
use Rattle.listing.proofs.trees.manifest.Given as goal

abbrev pub invariant-loop-id : goal.invariant-loop-id
invariant-loop-id l = record {
  text : l.into ++ lines_of (manifest_lines l.events.list) l.events.list (drop l.id-index l.set)
      ≡ l.fn.into ++ lines_of (manifest_lines l.events.list) l.events.list l.set;
  agrees : AgreesWith l.events.list l.manifests;
}
