use borrow.Author.Rules.{rules}
use Rattle.result_elements.proofs.Elements.{words_stored}
use Rattle.result_elements.proofs.write_words.Goals as goal

pub returns : goal.returns
returns c = search (rules, words_stored)
