-- Texts of days and moments in UTC, from 1970 to 9999 (RFC 3339, "Internet Date/Time Format"; the stamps: own).
use Rattle.std.specs.Prelude.{ℕ, ◌-◌, ◌==◌, ◌&&◌, nat_le, nat_lt, Bool, false, [], ◌∷◌, length, take, drop, bytes_eq, codes, slice_get, Option, Some, None, if◌then◌else◌}
use Rattle.std.specs.List.{list_all}
use Rattle.plain_model.specs.Numbers.{is_digit, value_after}
use Rattle.plain_model.specs.Paths.{Bytes}
use Rattle.civil_dates.specs.Dates.{month_lengths}

abbrev pub are_digits : Bytes → Bool
are_digits bytes = list_all is_digit bytes

-- the number of decimal digits
abbrev pub value_of : Bytes → ℕ
value_of digits = value_after 0 digits

-- 1 to 19 digits
abbrev pub is_count : Bytes → Bool
is_count bytes = are_digits bytes && nat_le 1 (length bytes) && nat_le (length bytes) 19

-- a part of a text: so many bytes from a place on
abbrev pub part : ℕ → ℕ → Bytes → Bytes
part from count text = take count (drop from text)

-- four digits and `-` at the front
abbrev pub is_date_form : Bytes → Bool
is_date_form text = nat_le 5 (length text) && are_digits (take 4 text) && bytes_eq (part 4 1 text) (codes "-")

-- the number that digits say
abbrev pub number_in : Bytes → Option ℕ
number_in text = if are_digits text then Some (value_of text) else None

-- a month has the day
abbrev pub has_day : ℕ → Option ℕ → Bool
has_day day None = false
has_day day (Some days) = nat_le 1 day && nat_le day days

-- a day of the calendar from 1970 on
abbrev pub is_date : ℕ → ℕ → ℕ → Bool
is_date year month day =
    nat_le 1970 year && nat_le 1 month && has_day day (slice_get (month_lengths year) (month - 1))

abbrev pub are_date : Option ℕ → Option ℕ → Option ℕ → Bool
are_date (Some year) (Some month) (Some day) = is_date year month day
are_date _ _ _ = false

-- `YYYY-MM-DD` of a day from 1970 on
abbrev pub is_day : Bytes → Bool
is_day text =
    length text == 10 && bytes_eq (part 4 1 text) (codes "-") && bytes_eq (part 7 1 text) (codes "-")
    && are_date (number_in (part 0 4 text)) (number_in (part 5 2 text)) (number_in (part 8 2 text))

-- a number that is there is below a bound
abbrev pub is_below : ℕ → Option ℕ → Bool
is_below bound None = false
is_below bound (Some n) = nat_lt n bound

-- `YYYY-MM-DDTHH:MM:SSZ`; there is no hour 24 and no second 60
abbrev pub is_moment : Bytes → Bool
is_moment text =
    length text == 20 && is_day (take 10 text)
    && bytes_eq (part 10 1 text) (codes "T") && is_below 24 (number_in (part 11 2 text))
    && bytes_eq (part 13 1 text) (codes ":") && is_below 60 (number_in (part 14 2 text))
    && bytes_eq (part 16 1 text) (codes ":") && is_below 60 (number_in (part 17 2 text))
    && bytes_eq (part 19 1 text) (codes "Z")

-- `YYYY-MM-DDTHH:MM:SSZ!` and what comes after it
abbrev pub is_stamp : Bytes → Bool
is_stamp text = is_moment (take 20 text) && bytes_eq (part 20 1 text) (codes "!")

-- ---- the number of a stamp

-- a byte put before a text that was cut at its last `#`, or was not
abbrev pub before_cut : ℕ → Bytes → Option (Bytes × Bytes) → Option (Bytes × Bytes)
before_cut b bytes (Some cut) = Some (b ∷ cut.0, cut.1)
before_cut b bytes None = if b == 35 then Some ([], bytes) else None

-- the bytes before the last `#`, and those after it, where there is one
abbrev pub at_last_sign : Bytes → Option (Bytes × Bytes)
at_last_sign [] = None
at_last_sign (b ∷ bytes) = before_cut b bytes (at_last_sign bytes)

-- an email, and which of several it is, if `#N` says so
abbrev pub cut_email : Bytes → Option (Bytes × Bytes) → Bytes × Option ℕ
cut_email text None = (text, None)
cut_email text (Some cut) = if is_count cut.1 then (cut.0, Some (value_of cut.1)) else (text, None)

abbrev pub email_in : Bytes → Bytes × Option ℕ
email_in text = cut_email text (at_last_sign text)
