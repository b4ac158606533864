-- The examples, computed.
use Rattle.std.proofs.Common.{◌≡◌, [], ◌∷◌, codes, refl, Ok, Err}
use Rattle.plain_model.specs.declared.fault.Fault.TheVariants as fault
use Rattle.plain_model.specs.declared.id.AnyId.TheVariants as any
use Rattle.plain_model.specs.Histories.{tree}
use Rattle.history_laws.specs.Examples.{reset_before_root, root_on_a_tip}
use Rattle.squash_laws.specs.Comments.{joined}
use Rattle.squash_laws.specs.Examples.{back_how, commits, each_kind, fork, fork_6_back, fork_without_3, forward_how, renamed, tagged, tags_back_how, two_roots, without_both_roots, without_first, without_last, without_middle, without_one_root}
use Rattle.plain_model.specs.Policies.{delete_how}
use Rattle.squash_laws.specs.Squash.{squash_of}

pub fork_forward : squash_of forward_how (commits (3 ∷ [])) fork ≡ Ok fork_without_3
fork_forward = refl

pub one_root : squash_of forward_how (commits (3 ∷ [])) two_roots ≡ Ok without_one_root
one_root = refl

pub both_roots : squash_of forward_how (commits (3 ∷ 4 ∷ [])) two_roots ≡ Ok without_both_roots
both_roots = refl

pub one_root_tree : tree without_one_root 5 ≡ tree two_roots 5
one_root_tree = refl

pub both_roots_tree : tree without_both_roots 5 ≡ tree two_roots 5
both_roots_tree = refl

pub fork_back : squash_of back_how (commits (4 ∷ [])) fork ≡ Err (fault.PushbackFork 4)
fork_back = refl

pub root_back : squash_of back_how (commits (2 ∷ [])) fork ≡ Err (fault.PushbackRoot 2)
root_back = refl

pub first_back : squash_of back_how (commits (4 ∷ 2 ∷ [])) fork ≡ Err (fault.PushbackRoot 2)
first_back = refl

pub last_back : squash_of back_how (commits (6 ∷ [])) fork ≡ Ok fork_6_back
last_back = refl

pub source_missing : squash_of delete_how (commits (3 ∷ [])) renamed ≡ Err (fault.MissingSource 4 1)
source_missing = refl

pub reset_deleted : squash_of delete_how (any.Reset 3 ∷ []) reset_before_root ≡ Ok root_on_a_tip
reset_deleted = refl

pub tag_forward : squash_of forward_how (commits (2 ∷ [])) (tagged 2) ≡ Ok (without_middle 3)
tag_forward = refl

pub tag_back : squash_of tags_back_how (commits (2 ∷ [])) (tagged 2) ≡ Ok (without_middle 1)
tag_back = refl

pub tag_childless : squash_of forward_how (commits (3 ∷ [])) (tagged 3) ≡ Ok (without_last 2)
tag_childless = refl

pub tag_of_root : squash_of tags_back_how (commits (1 ∷ [])) (tagged 1) ≡ Ok (without_first 2)
tag_of_root = refl

pub tag_nowhere : squash_of forward_how (commits (1 ∷ 2 ∷ 3 ∷ [])) (tagged 2) ≡ Ok []
tag_nowhere = refl

pub tag_deleted : squash_of delete_how (commits (1 ∷ 2 ∷ 3 ∷ [])) (tagged 2) ≡ Ok []
tag_deleted = refl

pub two_joined : joined ([] ∷ codes "one" ∷ [] ∷ codes "two" ∷ []) ≡ codes "one\ntwo"
two_joined = refl

pub none_forward : squash_of forward_how [] each_kind ≡ Ok each_kind
none_forward = refl

pub none_back : squash_of back_how [] each_kind ≡ Ok each_kind
none_back = refl

pub none_deleted : squash_of delete_how [] each_kind ≡ Ok each_kind
none_deleted = refl
