-- A test that refuses where it fails.
use Rattle.std.specs.Prelude.{ℕ, ◌<◌, ◌≡◌, Bool, true, false, not, List}
use Rattle.std.proofs.Common.{subst, sym}
use Rattle.lowering.specs.Gen.{skip, refuse, when}
use Rattle.gen_lines.specs.declared.Reached.{Reached}
use Rattle.gen_lines.specs.Puts.{Puts, or_else, made_refused, skip_puts, refuse_puts}

pub need_puts : (b : Bool) (e : ℕ) → 0 < e → (s : Reached) {t : Reached} (ks os : List ℕ) → t ≡ or_else b s (made_refused s e) → Puts (when (not b) (refuse e)) s t ks os ks os
unfolding when
need_puts true e p s ks os h = subst (λ (x : Reached). Puts skip s x ks os ks os) (sym h) (skip_puts s ks os)
need_puts false e p s ks os h = refuse_puts e p s ks os h
