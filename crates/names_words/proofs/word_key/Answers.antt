-- `word_key` meets its contract: what is shifted out and back in is zeros.
use borrow.Author.Rules.{rules}
use Rattle.names_words.proofs.Bytes.{key_cut}
use Rattle.names_words.proofs.word_key.Goals as goal

pub returns : goal.returns
returns c = λ bs o e. key_cut c.args.n c.args.w bs (search rules) o e
