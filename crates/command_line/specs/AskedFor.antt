-- What a command line asks for, as the machine sees it.
use Rattle.history_machine.specs.Words.{Asked}
use Rattle.command_line.specs.declared.words.Asked as words

abbrev pub asked_for : words.Asked → Asked
asked_for a = record { keep_going = a.keep_going; script = a.script.now }
