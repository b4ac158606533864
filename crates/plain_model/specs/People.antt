-- People and dates as they are spelled: NAME <EMAIL> SECONDS ZONE (git-fast-import, `committer`).
use Rattle.std.specs.Prelude.{◌≡◌, ◌⊎◌, ℕ, ◌≤◌, Bool, true, false, not, ◌&&◌, ◌==◌, [], ◌∷◌, ◌++◌, length, IsTrue}
use Rattle.std.specs.List.{list_all}
use Rattle.plain_model.specs.declared.limit.TheConstants.{MAX_SECONDS}
use Rattle.plain_model.specs.declared.person.Signed.{Signed}
use Rattle.plain_model.specs.Paths.{Bytes}
use Rattle.plain_model.specs.Numbers.{IsNumeral}

-- a byte that isn't `<`, `>` or NUL
abbrev pub is_clean_byte : ℕ → Bool
is_clean_byte b = not (b == 60) && not (b == 62) && not (b == 0)

abbrev pub is_clean : Bytes → Bool
is_clean text = list_all is_clean_byte text

-- what is before the email: nothing, or the name and a space that is no part of it
abbrev pub IsNamePart : Bytes → Bytes → Type 0
IsNamePart part name = ((part ≡ []) × (name ≡ [])) ⊎ (part ≡ name ++ 32 ∷ [])

-- a sign and four digits
pub record IsZone (text : Bytes) (minus : Bool) (offset : ℕ) : Type 0 where
  pub sign : ℕ
  pub digits : Bytes
  pub is : text ≡ sign ∷ digits
  pub signed : ((sign ≡ 43) × (minus ≡ false)) ⊎ ((sign ≡ 45) × (minus ≡ true))
  pub four : length digits ≡ 4
  pub numeral : IsNumeral digits offset

-- the text spells who and when
pub record IsSigned (text : Bytes) (who : Signed) : Type 0 where
  pub part : Bytes
  pub digits : Bytes
  pub zone : Bytes
  pub is : text ≡ part ++ 60 ∷ (who.person.email ++ 62 ∷ 32 ∷ (digits ++ 32 ∷ zone))
  pub name : IsNamePart part who.person.name
  pub clean_name : IsTrue (is_clean who.person.name)
  pub clean_email : IsTrue (is_clean who.person.email)
  pub seconds : IsNumeral digits who.when.seconds
  pub in_time : who.when.seconds ≤ MAX_SECONDS
  pub offset : IsZone zone who.when.minus who.when.offset
