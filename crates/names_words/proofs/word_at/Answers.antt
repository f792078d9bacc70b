-- `word_at` meets its contract: the first byte counts most.
use Prim.Native.Nat.{ℕ, ◌-◌, ◌≤◌}
use mathlib.Core.Path.{◌≡◌, ap, ◌∙◌}
use mathlib.Core.List.{List, ◌∷◌}
use native.Mathlib.Omega.{arith}
use lib.ListN.{length, take, drop, length-drop}
use lib.Seq.{take_all}
use Rattle.std.specs.Int.{w64, from_be_bytes}
use Rattle.names_words.specs.Word.{word}
use Rattle.names_words.proofs.word_at.Goals as goal

-- eight bytes as a number, the first of them highest
by_bytes : (bs : List ℕ) → 8 ≤ length bs → from_be_bytes w64 (take 8 bs) ≡ word 8 bs
unfolding word
by_bytes (b0 ∷ b1 ∷ b2 ∷ b3 ∷ b4 ∷ b5 ∷ b6 ∷ b7 ∷ bs) l = omega arith
by_bytes bs l = absurd (omega arith)

pub returns : goal.returns
returns c =
    let names = c.args.names.now in
    let rest = drop c.args.at names in
    let l : length rest ≡ length names - c.args.at = length-drop c.args.at names in
    let part : c.in-Some.part.now ≡ take 8 (take (length names - c.args.at) rest) = c.in-Some.ensures.cases.same in
    let all : take (length names - c.args.at) rest ≡ rest = take_all _ rest (omega arith) in
    c.from_be_bytes.ensures ∙ ap (from_be_bytes w64) (part ∙ ap (take 8) all) ∙ by_bytes rest (omega (arith, c.requires))
