-- `translate::translate_long` meets its contract: our own words are 0, and enough for 4,096 names.
use native.Mathlib.Omega.{arith}
use Rattle.translate.specs.Sound.{blank_own}
use borrow.Author.Rules.{rules}
use Rattle.translate.proofs.translate_long.Goals as goal

pub translate_own-requires : goal.translate_own-requires
translate_own-requires c = record { own_len = search rules; blank_ask = blank_own _ _ 34816 (omega arith) }
