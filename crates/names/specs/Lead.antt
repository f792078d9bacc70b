-- What the table of UTF-8 says of a character's first byte, in comparisons of that byte: how many others there are, and the range of the
-- second one. The others are tails.
use Rattle.std.specs.Prelude.{ℕ, zero, suc, ◌<◌, ◌≡◌, refl, Bool, true, ◌&&◌, ◌||◌, cond, List, [], ◌∷◌, eqb, leb, ltb, replicate}
use Rattle.std.proofs.Common.{⊎_elim, arith, leb-true, ltb-true}
use Rattle.std.proofs.lemmas.Bool.{false≢true}
use Rattle.names.specs.Text.{within}
use Rattle.names.specs.Utf8.{Range, to, tail, table, has, opens, begins}
use Rattle.names.specs.Tests.{both, either}

-- how many bytes stand behind it; 0 too where no character begins with it
abbrev pub tails : ℕ → ℕ
tails b = cond (ltb b 0xC2) 0 (cond (ltb b 0xE0) 1 (cond (ltb b 0xF0) 2 (cond (ltb b 0xF5) 3 0)))

-- a bound of the second byte: of two first bytes their own, of all others one
abbrev pub bound : (b x p y q r : ℕ) → ℕ
bound b x p y q r = cond (eqb b x) p (cond (eqb b y) q r)

-- from where to where the second byte lies
abbrev pub lowest : ℕ → ℕ
lowest b = bound b 0xE0 0xA0 0xF0 0x90 0x80

abbrev pub highest : ℕ → ℕ
highest b = bound b 0xED 0x9F 0xF4 0x8F 0xBF

-- so many bytes, the first of them in a range of its own
abbrev pub ranges : ℕ → Range → List Range
ranges zero r = []
ranges (suc n) r = r ∷ replicate n tail

-- a character begins with each byte below 128, and with those that have others behind them
abbrev pub leads : ℕ → Bool
leads b = ltb b 0x80 || ltb 0 (tails b)

-- what begins a character is a byte
firsts_fit : List (List Range) → Bool
firsts_fit [] = true
firsts_fit ([] ∷ ws) = firsts_fit ws
firsts_fit ((r ∷ rs) ∷ ws) = ltb r.high 256 && firsts_fit ws

firsts_fit_lem : (ws : List (List Range)) (b : ℕ) → firsts_fit ws ≡ true → begins ws b ≡ true → b < 256
unfolding begins opens has within firsts_fit
firsts_fit_lem [] b f h = absurd (false≢true h)
firsts_fit_lem ([] ∷ ws) b f h = firsts_fit_lem ws b f h
firsts_fit_lem ((r ∷ rs) ∷ ws) b f h =
    let g = both (ltb r.high 256) (firsts_fit ws) f in
    ⊎_elim (λ k. omega (arith, leb-true b r.high (both (leb r.low b) (leb b r.high) k).1, ltb-true r.high 256 g.0)) (λ k. firsts_fit_lem ws b g.1 k)
    (either (has r b) (begins ws b) h)

pub lead_octet : (b : ℕ) → begins table b ≡ true → b < 256
unfolding firsts_fit table to tail
lead_octet b h = firsts_fit_lem table b refl h
