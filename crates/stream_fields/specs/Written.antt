-- Parts of written fields, cut as the code puts them one after another.
use Rattle.std.specs.Prelude.{[], ◌++◌, codes, length, nat_lt, if◌then◌else◌}
use Rattle.std.specs.Fmt.{decimal}
use Rattle.plain_model.specs.declared.operation.Mode.{Mode}
use Rattle.plain_model.specs.declared.person.Person.{Person}
use Rattle.plain_model.specs.declared.person.When.{When}
use Rattle.plain_model.specs.declared.raw.RawContent.{RawContent}
use Rattle.plain_model.specs.Paths.{Bytes}
use Rattle.plain_model.specs.Text.{line, zone, mode_text, raw_content_text, last_path, source_path}

-- a name, with the space that parts it from the email
abbrev pub name_part : Bytes → Bytes
name_part name = name ++ (if nat_lt 0 (length name) then codes " " else [])

abbrev pub address : Person → Bytes
address p = codes "<" ++ p.email ++ codes "> "

abbrev pub date : When → Bytes
date w = decimal w.seconds ++ codes " " ++ (if w.minus then codes "-" else codes "+") ++ zone w.offset

abbrev pub modify_text : Mode → RawContent → Bytes → Bytes
modify_text mode content path = codes "M " ++ mode_text mode ++ codes " " ++ raw_content_text content ++ codes " " ++ last_path path

abbrev pub paths_text : Bytes → Bytes → Bytes → Bytes
paths_text word source target = word ++ source_path source ++ codes " " ++ last_path target

-- a block of data, whose count has 64 digits at most
abbrev pub counted_block : Bytes → Bytes
counted_block bytes = line (codes "data " ++ decimal (length bytes)) ++ line bytes
