-- Names of branches and tags (git-fast-import, `commit`, `tag`, `reset`; the bytes and the length: own).
use Rattle.std.specs.Prelude.{ℕ, Bool, ◌==◌, ◌&&◌, not, nat_le, List, length}
use Rattle.std.specs.List.{list_all}
use Rattle.plain_model.specs.declared.limit.TheConstants.{MAX_NAME_BYTES}

-- a byte that isn't a space, a control code or DEL
abbrev pub is_name_byte : ℕ → Bool
is_name_byte b = nat_le 33 b && not (b == 127)

-- 1 to 1,024 such bytes
abbrev pub is_name : List ℕ → Bool
is_name name = nat_le 1 (length name) && nat_le (length name) MAX_NAME_BYTES && list_all is_name_byte name
