-- The examples, computed.
use Rattle.std.proofs.Common.{◌≡◌, [], ◌∷◌, codes, map, refl, Ok, Err, None, Some, pos, negsuc, true}
use Rattle.plain_model.specs.declared.fault.Fault.TheVariants as fault
use Rattle.plain_model.specs.declared.id.AnyId.TheVariants as any
use Rattle.plain_model.specs.Parts.{cut_at, name_of, person_parts}
use Rattle.history_laws.specs.Examples.{master, someone_at}
use Rattle.event_fields.specs.declared.field.Field.TheVariants as field
use Rattle.mailbox_laws.specs.Headers.{identity_in}
use Rattle.people_laws.specs.Authors.{author_of, authors_of}
use Rattle.people_laws.specs.Dates.{time_offset_of}
use Rattle.people_laws.specs.Examples.{authors_file, bad_file, by_a, by_ann, earlier, later, latest, no_authors, none_of, right_authors, right_lines, signed}
use Rattle.people_laws.specs.Values.{set_field_of}

pub authors_done : authors_of authors_file by_a ≡ Ok by_ann
unfolding author_of identity_in person_parts name_of cut_at
authors_done = refl

pub authors_bad : authors_of bad_file by_a ≡ Err (fault.BadAuthors 2)
unfolding author_of identity_in person_parts name_of cut_at
authors_bad = refl

pub authors_none : authors_of [] by_a ≡ Ok by_a
authors_none = refl

pub lines_right : map author_of right_lines ≡ right_authors
unfolding author_of identity_in person_parts name_of cut_at
lines_right = refl

pub bad_lines : map author_of no_authors ≡ none_of no_authors
unfolding author_of identity_in person_parts name_of cut_at
bad_lines = refl

pub dates_later : time_offset_of (pos 50) None (any.Commit 2 ∷ any.Blob 1 ∷ []) by_a ≡ Ok later
dates_later = refl

pub dates_earlier : time_offset_of (negsuc 49) (Some (record { minus = true; offset = 330 })) (any.Commit 3 ∷ any.Tag 5 ∷ any.Reset 4 ∷ []) by_a
    ≡ Ok earlier
dates_earlier = refl

pub dates_range : time_offset_of (negsuc 150) None (any.Commit 3 ∷ any.Commit 2 ∷ []) by_a ≡ Err (fault.MomentRange 2)
dates_range = refl

pub dates_order : time_offset_of (negsuc 200) None (any.Tag 5 ∷ any.Commit 2 ∷ []) by_a ≡ Err (fault.MomentRange 5)
dates_order = refl

pub dates_greatest : time_offset_of (pos 249999999900) None (any.Commit 2 ∷ []) by_a ≡ Ok latest
dates_greatest = refl

pub dates_last : time_offset_of (pos 249999999901) None (any.Commit 2 ∷ []) by_a ≡ Err (fault.MomentRange 2)
dates_last = refl

pub comment_set : set_field_of (record { field = field.Comment; text = codes "two words" }) (any.Commit 3 ∷ any.Reset 4 ∷ any.Blob 1 ∷ []) by_a
    ≡ signed (someone_at 100) (someone_at 200) (codes "two words") master (codes "v1")
comment_set = refl

pub branch_set : set_field_of (record { field = field.Branch; text = codes "side" }) (any.Commit 3 ∷ any.Reset 4 ∷ any.Tag 5 ∷ []) by_a
    ≡ signed (someone_at 100) (someone_at 200) (codes "c3") (codes "side") (codes "v1")
branch_set = refl

pub name_set : set_field_of (record { field = field.Name; text = codes "v2" }) (any.Tag 5 ∷ any.Commit 2 ∷ []) by_a
    ≡ signed (someone_at 100) (someone_at 200) (codes "c3") master (codes "v2")
name_set = refl
