-- After i turns the first i words are printed.
use Rattle.std.proofs.Common.{◌≡◌, take}
use Rattle.page.specs.Page.{seen, printed}
use Rattle.printer.specs.Texts.{words_text}
use Rattle.printer.proofs.buffer_words.Given as goal

abbrev pub invariant-loop-word : goal.invariant-loop-word
invariant-loop-word l = seen l.page ≡ printed (seen l.fn.page) (words_text (take l.word-index l.buffer))
