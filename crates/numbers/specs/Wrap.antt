-- Words that wrap: sums, differences and products modulo 2 ^ w, for every width w. Assumes nothing.
use Rattle.std.specs.Prelude.{◌≡◌, ℕ, ◌+◌, ◌-◌, ◌*◌, ◌/◌, ◌%◌, ◌^◌, ◌<◌}
use Rattle.std.proofs.Common.{ap, sym, ◌∙◌, add_comm, add_assoc, add-zero, mul_comm, mul_assoc, mul-add, mod-lt, mod-eq_of_lt, div-add-mod', arith, pow_pos}
use Rattle.std.proofs.Math.Nat.{mod-add-mod, add-mod-mod, add-mod, add-mul-mod_self_right}
use Rattle.std.proofs.Math.Pow.{mod-mod-pow}

-- the sum of two words of w bits
abbrev pub wrap_add : ℕ → ℕ → ℕ → ℕ
wrap_add w a b = (a + b) % 2 ^ w

-- their difference: what is added to b to come to a
abbrev pub wrap_sub : ℕ → ℕ → ℕ → ℕ
wrap_sub w a b = (a + (2 ^ w - b % 2 ^ w)) % 2 ^ w

-- their product
abbrev pub wrap_mul : ℕ → ℕ → ℕ → ℕ
wrap_mul w a b = a * b % 2 ^ w

-- a factor counts modulo m alone
mul_mod_left : (a b m : ℕ) → a % m * b % m ≡ a * b % m
mul_mod_left a b m =
    let e : a % m * b + a / m * b * m ≡ (a / m * m + a % m) * b = omega arith in
    sym (add-mul-mod_self_right (a % m * b) (a / m * b) m) ∙ ap (λ (x : ℕ). x % m) (rw (div-add-mod' a m) at e)

mul_mod_right : (a b m : ℕ) → a * (b % m) % m ≡ a * b % m
mul_mod_right a b m = rw (mul_comm a (b % m), mul_comm a b) (mul_mod_left b a m)

-- what completes b to a multiple of m
rest : (b m : ℕ) → 0 < m → m - b % m + b ≡ (b / m + 1) * m
rest b m h = omega (arith, div-add-mod' b m, mod-lt b h)

module _ (w : ℕ) where
  pub wrap_add_left : (a b : ℕ) → wrap_add w (a % 2 ^ w) b ≡ wrap_add w a b
  wrap_add_left a b = mod-add-mod a (2 ^ w) b

  pub wrap_add_right : (a b : ℕ) → wrap_add w a (b % 2 ^ w) ≡ wrap_add w a b
  wrap_add_right a b = add-mod-mod a b (2 ^ w)

  pub wrap_add_comm : (a b : ℕ) → wrap_add w a b ≡ wrap_add w b a
  wrap_add_comm a b = rw (add_comm a b)

  pub wrap_add_zero : (a : ℕ) → a < 2 ^ w → wrap_add w a 0 ≡ a
  wrap_add_zero a h = rw (add-zero a) (mod-eq_of_lt h)

  -- wrapped sums may be taken in any order
  pub wrap_add_assoc : (a b c : ℕ) → wrap_add w (wrap_add w a b) c ≡ wrap_add w a (wrap_add w b c)
  wrap_add_assoc a b c = wrap_add_left (a + b) c ∙ ap (λ (x : ℕ). x % 2 ^ w) (add_assoc a b c) ∙ sym (wrap_add_right a (b + c))

  pub wrap_mul_left : (a b : ℕ) → wrap_mul w (a % 2 ^ w) b ≡ wrap_mul w a b
  wrap_mul_left a b = mul_mod_left a b (2 ^ w)

  pub wrap_mul_right : (a b : ℕ) → wrap_mul w a (b % 2 ^ w) ≡ wrap_mul w a b
  wrap_mul_right a b = mul_mod_right a b (2 ^ w)

  pub wrap_mul_comm : (a b : ℕ) → wrap_mul w a b ≡ wrap_mul w b a
  wrap_mul_comm a b = rw (mul_comm a b)

  pub wrap_mul_assoc : (a b c : ℕ) → wrap_mul w (wrap_mul w a b) c ≡ wrap_mul w a (wrap_mul w b c)
  wrap_mul_assoc a b c = wrap_mul_left (a * b) c ∙ ap (λ (x : ℕ). x % 2 ^ w) (mul_assoc a b c) ∙ sym (wrap_mul_right a (b * c))

  pub wrap_mul_add : (a b c : ℕ) → wrap_mul w a (wrap_add w b c) ≡ wrap_add w (wrap_mul w a b) (wrap_mul w a c)
  wrap_mul_add a b c = wrap_mul_right a (b + c) ∙ ap (λ (x : ℕ). x % 2 ^ w) (mul-add a b c) ∙ add-mod (a * b) (a * c) (2 ^ w)

  -- a difference, added back
  pub wrap_sub_add : (a b : ℕ) → wrap_add w (wrap_sub w a b) b ≡ a % 2 ^ w
  wrap_sub_add a b =
      wrap_add_left (a + (2 ^ w - b % 2 ^ w)) b
      ∙ ap (λ (x : ℕ). x % 2 ^ w) (add_assoc a (2 ^ w - b % 2 ^ w) b ∙ ap (λ (x : ℕ). a + x) (rest b (2 ^ w) (pow_pos w)))
      ∙ add-mul-mod_self_right a (b / 2 ^ w + 1) (2 ^ w)

  -- and no other word is one
  pub wrap_sub_unique : (a b r : ℕ) → r < 2 ^ w → wrap_add w r b ≡ a → r ≡ wrap_sub w a b
  wrap_sub_unique a b r h e =
      let s : r + b + (2 ^ w - b % 2 ^ w) ≡ r + (b / 2 ^ w + 1) * 2 ^ w = omega (arith, rest b (2 ^ w) (pow_pos w)) in
      sym
      (rw (← e)
      (wrap_add_left (r + b) (2 ^ w - b % 2 ^ w)
      ∙ ap (λ (x : ℕ). x % 2 ^ w) s
      ∙ add-mul-mod_self_right r (b / 2 ^ w + 1) (2 ^ w)
      ∙ mod-eq_of_lt h))

  -- the low w bits of a wider sum or product are those of w bits
  pub wrap_add_low : (j a b : ℕ) → wrap_add (j + w) a b % 2 ^ w ≡ wrap_add w a b
  wrap_add_low j a b = mod-mod-pow (a + b) j w

  pub wrap_mul_low : (j a b : ℕ) → wrap_mul (j + w) a b % 2 ^ w ≡ wrap_mul w a b
  wrap_mul_low j a b = mod-mod-pow (a * b) j w
