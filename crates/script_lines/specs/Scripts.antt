-- What is run of a script, and which macros it defines. (reposurgeon manual, `define`; the lines, and what a definition is: own)
use Rattle.std.specs.Prelude.{ℕ, ◌+◌, ◌==◌, ◌||◌, ◌&&◌, not, Bool, true, List, [], ◌∷◌, ◌++◌, length, nat_lt, Option, Some, None, Result, Ok, Err, bytes_eq, codes, if◌then◌else◌}
use Rattle.std.specs.List.{list_any}
use Rattle.std.specs.Str.{is_utf8}
use Rattle.plain_model.specs.Paths.{Bytes, is_empty}
use Rattle.plain_model.specs.declared.fault.Fault.{Fault}
use Rattle.plain_model.specs.declared.fault.Fault.TheVariants as fault
use Rattle.plain_model.specs.declared.fault.Which.TheVariants as limit
use Rattle.plain_model.specs.declared.limit.TheConstants.{MAX_LINE_BYTES}
use Rattle.script_lines.specs.Answering.{◌>>=◌}
use Rattle.script_lines.specs.Names.{is_given_name}
use Rattle.script_lines.specs.Words.{after_word, head_of}
use Rattle.script_lines.specs.declared.script.Place.{Place}
use Rattle.script_lines.specs.declared.script.Place.TheVariants.{Outside, Within}
use Rattle.script_lines.specs.declared.script.ScriptItem.{ScriptItem}
use Rattle.script_lines.specs.declared.script.ScriptLine.TheVariants.{Define, Plain}

-- ---- lines

-- a line that counts where it has bytes, though no LF ends it
abbrev pub last_line : Bytes → List Bytes
last_line line = if is_empty line then [] else line ∷ []

-- the lines from here on, of which the first goes on after bytes that are given
abbrev pub lines_from : Bytes → Bytes → List Bytes
lines_from begun [] = last_line begun
lines_from begun (b ∷ bs) = if b == 10 then begun ∷ lines_from [] bs else lines_from (begun ++ b ∷ []) bs

-- the lines, cut at LF alone
abbrev pub lines_of : Bytes → List Bytes
lines_of bytes = lines_from [] bytes

-- ---- what counts of a line

-- a space, a tab or a CR, which doesn't count at a line's ends
abbrev pub is_margin : ℕ → Bool
is_margin b = b == 32 || b == 9 || b == 13

-- from the first byte on that counts
abbrev pub without_front : Bytes → Bytes
without_front [] = []
without_front (b ∷ bs) = if is_margin b then without_front bs else b ∷ bs

-- a byte in front of others, unless nothing follows it that counts and it doesn't count itself
abbrev pub in_front : ℕ → Bytes → Bytes
in_front b [] = if is_margin b then [] else b ∷ []
in_front b (c ∷ cs) = b ∷ c ∷ cs

-- up to the last byte that counts
abbrev pub without_back : Bytes → Bytes
without_back [] = []
without_back (b ∷ bs) = in_front b (without_back bs)

-- what counts of a line
abbrev pub trimmed : Bytes → Bytes
trimmed line = without_back (without_front line)

-- more bytes than a line may have
abbrev pub is_long : Bytes → Bool
is_long line = nat_lt MAX_LINE_BYTES (length line)

-- what is reported of such a line
abbrev pub too_long : Fault
too_long = fault.ExpansionLimit limit.LineBytes MAX_LINE_BYTES

-- ---- definitions of macros

-- the line begins with the word `define` and the name of a macro, and something is after them
abbrev pub is_definition : Bytes → Bool
is_definition text = bytes_eq (head_of text) (codes "define") && is_given_name (head_of (after_word text)) && not (is_empty (after_word (after_word text)))

-- the macro's name, and what is after it
abbrev pub definition_in : Bytes → Option (Bytes × Bytes)
definition_in text = if is_definition text then Some (head_of (after_word text), after_word (after_word text)) else None

-- a `{` alone opens a body; any other text is one
abbrev pub opens : Bytes → Bool
opens body = bytes_eq body (codes "{")

-- ---- the script

-- a line that ends a body
abbrev pub closes : Bytes → Bool
closes text = bytes_eq text (codes "}")

-- where a line leads that is such a definition, or none
abbrev pub opened : ℕ → Option (Bytes × Bytes) → Place
opened n None = Outside
opened n (Some definition) = if opens definition.1 then Within n definition.0 [] else Outside

-- where we are after the n-th line
abbrev pub place_after : ℕ → Place → Bytes → Place
place_after n Outside text = opened n (definition_in text)
place_after n (Within begun name body) text = if closes text then Outside else Within begun name (body ++ text ∷ [])

-- an empty line and a comment
abbrev pub is_nothing : Bytes → Bool
is_nothing [] = true
is_nothing (b ∷ bs) = b == 35

-- the item that a line is, which is such a definition, or none
abbrev pub item_of : ℕ → Bytes → Option (Bytes × Bytes) → List ScriptItem
item_of n text None = if is_nothing text then [] else record { line = n; what = Plain text } ∷ []
item_of n text (Some definition) =
    if opens definition.1 then [] else record { line = n; what = Define definition.0 (definition.1 ∷ []) } ∷ []

-- the item that is complete with the n-th line: a body stands for the line of its `define`
abbrev pub item_at : ℕ → Place → Bytes → List ScriptItem
item_at n Outside text = item_of n text (definition_in text)
item_at n (Within begun name body) text = if closes text then record { line = begun; what = Define name body } ∷ [] else []

-- what is reported of the n-th line, which isn't UTF-8: the body before it may never end
abbrev pub bad_at : ℕ → Place → List Bytes → Fault
bad_at n Outside lines = fault.BadText n
bad_at n (Within begun name body) lines = if list_any (λ line. closes (trimmed line)) lines then fault.BadText n else fault.UnclosedDefine begun

-- the end of a script
abbrev pub at_end : Place → Result (List ScriptItem) Fault
at_end Outside = Ok []
at_end (Within begun name body) = Err (fault.UnclosedDefine begun)

-- items before others that are read, if they are
abbrev pub before : List ScriptItem → Result (List ScriptItem) Fault → Result (List ScriptItem) Fault
before items rest = rest >>= λ more. Ok (items ++ more)

-- the items of the lines from the n-th on, all of which must be UTF-8, the comments too
abbrev pub script_from : ℕ → Place → List Bytes → Result (List ScriptItem) Fault
script_from n place [] = at_end place
script_from n place (line ∷ lines) =
    if is_utf8 line then before (item_at n place (trimmed line)) (script_from (n + 1) (place_after n place (trimmed line)) lines)
    else Err (bad_at n place lines)

-- the script of some bytes
unfoldable pub script_of : Bytes → Result (List ScriptItem) Fault
script_of bytes = script_from 1 Outside (lines_of bytes)
