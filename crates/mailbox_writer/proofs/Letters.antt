-- The text of a message, put piece by piece.
use Rattle.std.proofs.Common.{◌≡◌, ℕ, Option, List, [], ◌∷◌, ◌++◌, map, length, codes, decimal, ◌==◌, false, refl, sym, ap, ◌∙◌, append_assoc, append-nil}
use Rattle.std.specs.Prelude.{flat_map}
use Rattle.std.proofs.lemmas.Bool.{true≢false}
use Rattle.std.proofs.lemmas.Grind.{flat_map-append}
use Rattle.event_arena.specs.declared.field.Role.TheVariants.{Author, Committer}
use Rattle.plain_model.specs.declared.event.PlainEvent.{PlainEvent}
use Rattle.plain_model.specs.Paths.{Bytes}
use Rattle.plain_model.specs.declared.person.Signed.{Signed}
use Rattle.plain_model.specs.Snapshots.{commit_mark}
use Rattle.plain_model.specs.Text.{line, marked}
use Rattle.mailbox_laws.specs.Boxes.{rule}
use Rattle.mailbox_laws.specs.Written.{Header, Letter, body_text, check_headers, commit_letter, encoding_headers, header_text, letter_text, marks_text, parents_headers, signed_headers, tag_letter, tagger_headers}
use Rattle.mailbox_writer.specs.Headed.{headers_text}

-- one text after another
put : (start a b : Bytes) {one two : Bytes} → one ≡ start ++ a → two ≡ one ++ b → two ≡ start ++ (a ++ b)
put start a b first second = second ∙ ap (λ text. text ++ b) first ∙ append_assoc start a b

-- a header with a value that is known by another name
pub one_header : (name : Bytes) {value other : Bytes} → value ≡ other → line (header_text (name, value)) ≡ headers_text ((name, other) ∷ [])
one_header name {value} {other} is = ap (λ text. line (header_text (name, text))) is ∙ sym (append-nil (line (header_text (name, other))))

pub headers_append : (a b : List Header) → headers_text (a ++ b) ≡ headers_text a ++ headers_text b
headers_append a b = flat_map-append (λ (h : Header). line (header_text h)) a b

-- one header before others, and some
head : (h : Header) (hs : List Header) (tail : Bytes) → headers_text (h ∷ hs) ++ tail ≡ line (header_text h) ++ (headers_text hs ++ tail)
head h hs tail = append_assoc (line (header_text h)) (headers_text hs) tail

group : (a b : List Header) (tail : Bytes) → headers_text (a ++ b) ++ tail ≡ headers_text a ++ (headers_text b ++ tail)
group a b tail = ap (λ text. text ++ tail) (headers_append a b) ∙ append_assoc (headers_text a) (headers_text b) tail

three : (h k m : Header) (tail : Bytes)
    → headers_text (h ∷ k ∷ m ∷ []) ++ tail ≡ line (header_text h) ++ (line (header_text k) ++ (line (header_text m) ++ tail))
three h k m tail =
    head h (k ∷ m ∷ []) tail ∙ ap (λ text. line (header_text h) ++ text)
    (head k (m ∷ []) tail ∙ ap (λ text. line (header_text k) ++ text) (head m [] tail))

-- the text of a message, from the front
from_front : (l : Letter) → letter_text l ≡ line rule ++ (headers_text l.headers ++ (line [] ++ body_text l.comment))
from_front l =
    append_assoc (line rule ++ headers_text l.headers) (line []) (body_text l.comment)
    ∙ append_assoc (line rule) (headers_text l.headers) (line [] ++ body_text l.comment)

pub tag_put : (whole : List PlainEvent) (n : ℕ) (name : Bytes) (target : ℕ) (tagger : Option Signed) (comment : Bytes)
    (i : Bytes) {j k l m o p q : Bytes} {mark : ℕ}
    → j ≡ i ++ line rule
    → k ≡ j ++ line (header_text (codes "Event-Number", decimal n))
    → l ≡ k ++ line (header_text (codes "Tag-Name", name))
    → m ≡ l ++ line (header_text (codes "Target", marked mark))
    → o ≡ m ++ headers_text (tagger_headers tagger)
    → p ≡ o ++ headers_text (check_headers comment)
    → q ≡ p ++ (line [] ++ body_text comment)
    → mark ≡ commit_mark whole target
    → q ≡ i ++ letter_text (tag_letter whole n name target tagger comment)
tag_put whole n name target tagger comment i {j = j} {k = k} {l = l} {m = m} {o = o} ruled numbered named aimed by checked done is =
    let tail = line [] ++ body_text comment in
    let first : Header = (codes "Event-Number", decimal n) in
    let second : Header = (codes "Tag-Name", name) in
    let third : Header = (codes "Target", marked (commit_mark whole target)) in
    let begun = first ∷ second ∷ third ∷ [] in
    let said = tagger_headers tagger in
    let checks = check_headers comment in
    let aimed' = aimed ∙ ap (λ m. l ++ line (header_text (codes "Target", marked m))) is in
    let grouped = group (begun ++ said) checks tail ∙ group begun said (headers_text checks ++ tail)
    ∙ three first second third (headers_text said ++ (headers_text checks ++ tail)) in
    let rest5 = headers_text checks ++ tail in
    let rest4 = headers_text said ++ rest5 in
    let rest3 = line (header_text third) ++ rest4 in
    let rest2 = line (header_text second) ++ rest3 in
    let rest1 = line (header_text first) ++ rest2 in
    put i (line rule) rest1 ruled (put j (line (header_text first)) rest2 numbered (put k (line (header_text second)) rest3 named
    (put l (line (header_text third)) rest4 aimed' (put m (headers_text said) rest5 by (put o (headers_text checks) tail checked done)))))
    ∙ ap (λ text. i ++ (line rule ++ text)) (sym grouped)
    ∙ ap (λ text. i ++ text) (sym (from_front (tag_letter whole n name target tagger comment)))

pub commit_put : (whole : List PlainEvent) (n mark : ℕ) (branch : Bytes) (author committer : Signed) (encoding : Option Bytes)
    (comment : Bytes) (parents : List ℕ) (i : Bytes) {j k l m o p q r s t : Bytes} {number : ℕ}
    → j ≡ i ++ line rule
    → k ≡ j ++ line (header_text (codes "Event-Number", decimal n))
    → l ≡ k ++ line (header_text (codes "Event-Mark", marked number))
    → m ≡ l ++ line (header_text (codes "Branch", branch))
    → o ≡ m ++ headers_text (parents_headers whole parents)
    → p ≡ o ++ headers_text (signed_headers Author author)
    → q ≡ p ++ headers_text (signed_headers Committer committer)
    → r ≡ q ++ headers_text (encoding_headers encoding)
    → s ≡ r ++ headers_text (check_headers comment)
    → t ≡ s ++ (line [] ++ body_text comment)
    → number ≡ mark
    → t ≡ i ++ letter_text (commit_letter whole n mark branch author committer encoding comment parents)
commit_put whole n mark branch author committer encoding comment parents i {j = j} {k = k} {l = l} {m = m} {o = o} {p = p} {q = q} {r = r} ruled numbered named on after wrote gave coded checked done is =
    let tail = line [] ++ body_text comment in
    let first : Header = (codes "Event-Number", decimal n) in
    let second : Header = (codes "Event-Mark", marked mark) in
    let third : Header = (codes "Branch", branch) in
    let begun = first ∷ second ∷ third ∷ [] in
    let elders = parents_headers whole parents in
    let writer = signed_headers Author author in
    let giver = signed_headers Committer committer in
    let codings = encoding_headers encoding in
    let checks = check_headers comment in
    let named' = named ∙ ap (λ m. k ++ line (header_text (codes "Event-Mark", marked m))) is in
    let rest4 = headers_text checks ++ tail in
    let rest3 = headers_text codings ++ rest4 in
    let rest2 = headers_text giver ++ rest3 in
    let rest1 = headers_text writer ++ rest2 in
    let grouped = group ((((begun ++ elders) ++ writer) ++ giver) ++ codings) checks tail
    ∙ group (((begun ++ elders) ++ writer) ++ giver) codings rest4
    ∙ group ((begun ++ elders) ++ writer) giver rest3
    ∙ group (begun ++ elders) writer rest2
    ∙ group begun elders rest1
    ∙ three first second third (headers_text elders ++ rest1) in
    let rest0 = headers_text elders ++ rest1 in
    let front2 = line (header_text third) ++ rest0 in
    let front1 = line (header_text second) ++ front2 in
    let front0 = line (header_text first) ++ front1 in
    put i (line rule) front0 ruled (put j (line (header_text first)) front1 numbered (put k (line (header_text second)) front2 named'
    (put l (line (header_text third)) rest0 on (put m (headers_text elders) rest1 after (put o (headers_text writer) rest2 wrote
    (put p (headers_text giver) rest3 gave (put q (headers_text codings) rest4 coded (put r (headers_text checks) tail checked done))))))))
    ∙ ap (λ text. i ++ (line rule ++ text)) (sym grouped)
    ∙ ap (λ text. i ++ text) (sym (from_front (commit_letter whole n mark branch author committer encoding comment parents)))

-- marks, each after a space
spaced : (whole : List PlainEvent) (ids : List ℕ)
    → flat_map (λ c. codes " " ++ marked (commit_mark whole c)) ids ≡ flat_map (λ n. codes " " ++ marked n) (map (commit_mark whole) ids)
spaced whole [] = refl
spaced whole (c ∷ cs) = ap (λ text. codes " " ++ marked (commit_mark whole c) ++ text) (spaced whole cs)

pub parents_put : (whole : List PlainEvent) (ids : List ℕ) (i : Bytes) {j k l : Bytes} → (length ids == 0) ≡ false
    → j ≡ i ++ codes "Parents:"
    → k ≡ j ++ flat_map (λ c. codes " " ++ marked (commit_mark whole c)) ids
    → l ≡ k ++ 10 ∷ []
    → l ≡ i ++ headers_text (parents_headers whole ids)
parents_put whole [] i some begun listed ended = absurd (true≢false some)
parents_put whole (p ∷ ps) i {j = j} some begun listed ended =
    let m = commit_mark whole p in
    let listed_text = flat_map (λ c. codes " " ++ marked (commit_mark whole c)) (p ∷ ps) in
    put i (codes "Parents:") (listed_text ++ 10 ∷ []) begun (put j listed_text (10 ∷ []) listed ended)
    ∙ ap (λ text. i ++ (codes "Parents: " ++ ((marked m ++ text) ++ 10 ∷ []))) (spaced whole ps)
    ∙ ap (λ text. i ++ text) (sym (append-nil (line (header_text (codes "Parents", marks_text (map (commit_mark whole) (p ∷ ps)))))))
