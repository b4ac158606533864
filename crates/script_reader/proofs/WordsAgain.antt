-- Command words are read as they are written.
use Rattle.std.proofs.Common.{◌≡◌, Some, refl}
use Rattle.script_reader.specs.Edits.{word_of}
use Rattle.script_reader.specs.Keywords.{command_word, keyword_of, listing_of, listing_word, other_of, plain_word, plain_word_of}
use Rattle.script_reader.specs.declared.command.Listing.{Listing}
use Rattle.script_reader.specs.declared.command.Listing.TheVariants as listing
use Rattle.script_reader.specs.declared.keyword.Keyword.{Keyword}
use Rattle.script_reader.specs.declared.keyword.Keyword.TheVariants as keyword
use Rattle.script_reader.specs.declared.keyword.PlainWord.{PlainWord}
use Rattle.script_reader.specs.declared.keyword.PlainWord.TheVariants as plain
use Rattle.script_reader.proofs.SaidEdits.{no_plain_word, word_again}

plain_again : (word : PlainWord) → plain_word_of (plain_word word) ≡ Some word
unfolding plain_word_of
plain_again plain.Read = refl
plain_again plain.Write = refl
plain_again plain.Choose = refl
plain_again plain.Drop = refl
plain_again plain.Renumber = refl
plain_again plain.Names = refl
plain_again plain.Summary = refl
plain_again plain.Sample = refl
plain_again plain.Expunge = refl
plain_again plain.Land = refl
plain_again plain.Authors = refl
plain_again plain.Unite = refl

listing_again : (what : Listing) → keyword_of (listing_word what) ≡ Some (keyword.Show what)
unfolding plain_word_of word_of listing_of
listing_again listing.List = refl
listing_again listing.Index = refl
listing_again listing.Stamp = refl
listing_again listing.Resolve = refl
listing_again listing.Manifest = refl
listing_again listing.Messages = refl

pub keyword_again : (word : Keyword) → keyword_of (command_word word) ≡ Some word
unfolding plain_word_of word_of listing_of other_of
keyword_again (keyword.Plain word) = rw (plain_again word) refl
keyword_again (keyword.Edit word) = rw (no_plain_word word, word_again word) refl
keyword_again (keyword.Show what) = listing_again what
keyword_again keyword.Assign = refl
keyword_again keyword.Graft = refl
keyword_again keyword.Divide = refl
keyword_again keyword.Do = refl
keyword_again keyword.Define = refl
