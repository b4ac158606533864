use Rattle.std.proofs.Common.{Some, None, sym, lit<}
use Rattle.std.proofs.lemmas.Str.Pattern.{strip_prefix_char, strip_suffix_char}
use Rattle.load_list.proofs.PathWords.{no_slash_before, slashes_cut}
use Rattle.load_list.proofs.path_words.between_slashes.Goals as goal

pub returns-in-Some : goal.returns-in-Some
returns-in-Some c =
    slashes_cut c.args.word.now c.in-Some.rest.now c.strip_suffix.result
    (strip_prefix_char 47 c.args.word.now (Some c.in-Some.rest) c.in-Some.ensures.cases (lit< tt))
    (strip_suffix_char 47 c.in-Some.rest.now c.strip_suffix.result c.strip_suffix.ensures.cases (lit< tt))

pub returns-in-None : goal.returns-in-None
returns-in-None c = sym (no_slash_before c.args.word.now (strip_prefix_char 47 c.args.word.now None c.in-None.ensures.cases (lit< tt)))
