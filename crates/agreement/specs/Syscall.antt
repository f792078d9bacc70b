-- `gen_syscall`, `gen_memcmp_call`, and which kind of call a callee takes.
use Prim.Native.Nat.{ℕ, zero}
use Rattle.std.specs.Prelude.{◌≡◌, Bool, not, ◌&&◌, ◌||◌, eqb, length}
use Rattle.std.proofs.Math.Path.{refl, sym}
use Rattle.std.proofs.Common.{ap, ◌∙◌}
use Rattle.std.proofs.Math.Bool.{true, false}
use Rattle.std.proofs.lemmas.Bool.{false≢true}
use Rattle.std.proofs.Math.Option.{Option, none, some}
use mathlib.Core.List.{List, [], ◌∷◌, ◌++◌}
use borrow.Author.Tests.{eqb-true, not-true, not-false}
use Rattle.names.specs.Name.{name_at}
use Rattle.names.specs.Text.{same}
use Rattle.names.specs.Texts.{same_iff}
use Rattle.names.specs.Spelling.{is_syscall, is_bcmp, is_memcmp}
use Rattle.book.specs.Ast.{Ty, Value, TypedVal}
use Rattle.book.specs.Result.{ok, err_no_ok}
use Rattle.assembly.specs.Line.{Line}
use Rattle.machine.specs.State.{Target, Shape, Frame, memcmp, shape_of, printed_name}
use Rattle.machine.specs.Line.{or_fails, pop_n, does, calls, replying, system_call}
use Rattle.lowering.specs.Gen.{◌>>=◌}
use Rattle.lowering.specs.Call.{is_void, push_args, gen_syscall, gen_memcmp_call, call_named, gen_call}
use Rattle.manual.specs.Stop.{Stop}
use Rattle.manual.specs.State.{Source}
use Rattle.manual.specs.Call.{result_width, listed_as, has_width, same_test, shaped, fits_shape, receive, target_of, reply_to, after_call, run_call}
use Rattle.agreement.specs.Holds.{Holds, H-ok, H-err, H-bind, H-eq, H-known, H-need}
use Rattle.agreement.specs.Gives.{Gives, G-put, G-then, G-when, G-choose, G-map}
use Rattle.agreement.specs.Setup.{Setup, ctx, given}
use Rattle.agreement.specs.Reach.{Runs, run_line, seq, doing}
use Rattle.agreement.specs.Relation.{Rel, Apart}
use Rattle.agreement.specs.Operand.{Ends}
use Rattle.agreement.specs.Gep.{SoundIndices}
use Rattle.agreement.specs.Instr.{StepOk}
use Rattle.agreement.specs.Call.{onto, pop_onto, Pushed, args_ok, after, rel_called, CallsOk, ReceiveOk, drop_ok, ends_call, plain_ok}

no_width : has_width none ≡ true → ⊥
unfolding has_width
no_width e = false≢true e

is_global : Value → Bool
is_global (Value.global x) = true
is_global (Value.local x) = false
is_global (Value.int x) = false
is_global (Value.zero x) = false
is_global Value.other = false

-- a value that is no global equals none
other_value : {X : Type 0} (v : Value) (x : ℕ) → is_global v ≡ false → v ≡ Value.global x → X
unfolding is_global
other_value v x h e = absurd (false≢true (sym h ∙ ap is_global e))

module _ (s : Setup) where
  does_syscall : (x : ℕ) (e : Frame) (o : List ℕ) → doing s (Line.syscall x) e o ≡ system_call s.world (printed_name (name_at s.codegen.names x)) e o
  unfolding does
  does_syscall x e o = refl

  does_memcmp : (e : Frame) (o : List ℕ) → doing s Line.sys_memcmp e o ≡ system_call s.world memcmp e o
  unfolding does
  does_memcmp e o = refl

  module _ (ap' : Apart s) where
    -- ---- syscalls
    and_left : (a b : Bool) → (a && b) ≡ true → a ≡ true
    and_left true b h = refl
    and_left false b h = h

    and_right : (a b : Bool) → (a && b) ≡ true → b ≡ true
    and_right true b h = h
    and_right false b h = absurd (false≢true h)

    same_test_lem : (a b : Bool) → same_test a b ≡ true → a ≡ b
    unfolding same_test
    same_test_lem true b h = sym h
    same_test_lem false b h = sym (not-true b h)

    -- a syscall that fits its shape is listed, and pushes its cell where a result is asked for
    system_does : (t : List ℕ) (n : ℕ) (w : Option ℕ) (e : Frame) (ns o : List ℕ) → length ns ≡ n → shaped (shape_of s.world t) n w ≡ true
        → system_call s.world t e (onto ns o) ≡ replying s.world (has_width w) (Target.syscall t) e ns o
    unfolding system_call shaped
    system_does t n w e ns o h f = go (shape_of s.world t) refl f
      where
        go : (r : Option Shape) → shape_of s.world t ≡ r → shaped r n w ≡ true → or_fails r (λ z. pop_n z.args [] (onto ns o) (replying s.world z.replies (Target.syscall t) e)) ≡ replying s.world (has_width w) (Target.syscall t) e ns o
        go none e₀ f = absurd (false≢true f)
        go (some z) e₀ f =
            let i : n ≡ z.args = eqb-true n z.args (and_left (eqb n z.args) (same_test z.replies (has_width w)) f) in
            let j : z.replies ≡ has_width w = same_test_lem z.replies (has_width w) (and_right (eqb n z.args) (same_test z.replies (has_width w)) f) in
            rw (← i, ← h, j, pop_onto ns o _) refl

    -- the call of a syscall with a result, and of one without
    replied : (l : Line) (t : List ℕ) → ((e : Frame) (o : List ℕ) → doing s l e o ≡ system_call s.world t e o) → (n v : ℕ) (σ : Source) (e : Frame) → shaped (shape_of s.world t) n (some v) ≡ true
        → CallsOk s σ e (Target.syscall t) n (l ∷ [])
    unfolding replying has_width
    replied l t d n v σ e f ns o h = run_line s (d e (onto ns o) ∙ system_does t n (some v) e ns o h f)

    quiet : (l : Line) (t : List ℕ) → ((e : Frame) (o : List ℕ) → doing s l e o ≡ system_call s.world t e o) → (n : ℕ) (e : Frame) → shaped (shape_of s.world t) n none ≡ true
        → (ns o : List ℕ) → length ns ≡ n → Runs s (l ∷ []) e (onto ns o) (after s (Target.syscall t) ns e) o
    unfolding replying has_width
    quiet l t d n e f ns o h = run_line s (d e (onto ns o) ∙ system_does t n none e ns o h f)

    no_result : {A : List Line} {σ : Source} {e : Frame} (l : Line) (t : List ℕ) → ((e : Frame) (o : List ℕ) → doing s l e o ≡ system_call s.world t e o) → (n : ℕ) (o ns : List ℕ) (dest : Option ℕ)
        → Rel s σ e → Pushed s n A e ns → shaped (shape_of s.world t) n none ≡ true
        → Holds (receive none dest (reply_to (given s) σ.calls).cell (after_call (given s) (Target.syscall t) ns σ)) (λ τ. Ends s (A ++ (l ∷ [])) e o τ o)
    unfolding receive
    no_result {e = e} l t d n o ns none r p f = H-ok _ (record { frame = after s (Target.syscall t) ns e; runs = seq s (p.pushes o) (quiet l t d n e f ns o p.number); rel = rel_called s (Target.syscall t) ns r })
    no_result l t d n o ns (some x) r p f = H-err _

    -- a result is asked for exactly where the type is not void
    void_width : (ty : Ty) (w : Option ℕ) → result_width ty ≡ ok w → is_void ty ≡ not (has_width w)
    unfolding result_width is_void has_width
    void_width Ty.void w h = rw (← same w h) refl
      where
        same : (w : Option ℕ) → ok none ≡ ok w → none ≡ w
        same w h = cc
    void_width (Ty.int v) w h = rw (← same w h) refl
      where
        same : (w : Option ℕ) → ok (some v) ≡ ok w → some v ≡ w
        same w h = cc
    void_width Ty.ptr w h = rw (← same w h) refl
      where
        same : (w : Option ℕ) → ok (some 64) ≡ ok w → some 64 ≡ w
        same w h = cc
    void_width (Ty.sizeless k) w h = err_no_ok _ w h
    void_width (Ty.array p n t) w h = err_no_ok _ w h
    void_width (Ty.named_struct x) w h = err_no_ok _ w h
    void_width (Ty.struct p ts) w h = err_no_ok _ w h

    -- `gen_syscall`
    syscall_ok : (dest : Option ℕ) (x : ℕ) (ty : Ty) (as' : List TypedVal) → SoundIndices as' → is_syscall (name_at s.codegen.names x) ≡ true
        → Gives (gen_syscall (ctx s) dest x ty as') (StepOk s (run_call (given s) dest ty (Value.global x) as'))
    unfolding gen_syscall push_args run_call target_of listed_as fits_shape has_width
    syscall_ok dest x ty as' sound sys = G-then _ (args_ok s as' sound) λ A pa. G-put _ _ (G-when (not (is_void ty)) _
        (λ nv. G-map (drop_ok s ap' dest) λ C pc σ e o r. H-bind _ (pa σ e r) λ ns p. rw sys (H-known _ refl (H-eq (result_width ty) _ λ w hw. H-need _ Stop.syscall_shape _ λ f. with_result A C pc σ e o r ns p w hw f (not-true (is_void ty) nv))))
        (λ v σ e o r. H-bind _ (pa σ e r) λ ns p. rw sys (H-known _ refl (H-eq (result_width ty) _ λ w hw. H-need _ Stop.syscall_shape _ λ f. without A σ e o r ns p w hw f (not-false (is_void ty) v)))))
      where
        t : List ℕ
        t = printed_name (name_at s.codegen.names x)

        d : (e : Frame) (o : List ℕ) → doing s (Line.syscall x) e o ≡ system_call s.world t e o
        d e o = does_syscall x e o

        with_result : (A C : List Line) → ReceiveOk s dest C
            → (σ : Source) (e : Frame) (o : List ℕ) → Rel s σ e → (ns : List ℕ) → Pushed s (length as') A e ns → (w : Option ℕ) → result_width ty ≡ ok w → shaped (shape_of s.world t) (length as') w ≡ true → is_void ty ≡ false
            → Holds (receive w dest (reply_to (given s) σ.calls).cell (after_call (given s) (Target.syscall t) ns σ)) (λ τ. Ends s (A ++ (Line.syscall x ∷ C)) e o τ o)
        with_result A C pc σ e o r ns p none hw f nv = absurd (false≢true (sym nv ∙ void_width ty none hw))
        with_result A C pc σ e o r ns p (some v) hw f nv = ends_call s ap' {B = Line.syscall x ∷ []} o ns (Target.syscall t) (length as') (some v) dest r p (replied (Line.syscall x) t d (length as') v σ e f) pc

        without : (A : List Line) (σ : Source) (e : Frame) (o : List ℕ) → Rel s σ e → (ns : List ℕ) → Pushed s (length as') A e ns → (w : Option ℕ) → result_width ty ≡ ok w → shaped (shape_of s.world t) (length as') w ≡ true → is_void ty ≡ true
            → Holds (receive w dest (reply_to (given s) σ.calls).cell (after_call (given s) (Target.syscall t) ns σ)) (λ τ. Ends s (A ++ (Line.syscall x ∷ [])) e o τ o)
        without A σ e o r ns p (some v) hw f iv = absurd (false≢true (sym (void_width ty (some v) hw) ∙ iv))
        without A σ e o r ns p none hw f iv = no_result (Line.syscall x) t d (length as') o ns dest r p f

    -- ---- `gen_memcmp_call`
    memcmp_result : (n : ℕ) (w : Option ℕ) → shaped (shape_of s.world memcmp) n w ≡ true → has_width w ≡ true
    unfolding shape_of shaped
    memcmp_result n w f = let e : same memcmp memcmp ≡ true = (same_iff memcmp memcmp).1 refl in sym (same_test_lem true (has_width w) (and_right (eqb n 3) (same_test true (has_width w)) (rw e at f)))

    memcmp_ok : (dest : Option ℕ) (x : ℕ) (ty : Ty) (as' : List TypedVal) → SoundIndices as' → is_syscall (name_at s.codegen.names x) ≡ false → (is_bcmp (name_at s.codegen.names x) || is_memcmp (name_at s.codegen.names x)) ≡ true
        → Gives (gen_memcmp_call (ctx s) dest as') (StepOk s (run_call (given s) dest ty (Value.global x) as'))
    unfolding gen_memcmp_call push_args run_call target_of listed_as fits_shape
    memcmp_ok dest x ty as' sound ns' m = G-then _ (args_ok s as' sound) λ A pa. G-put _ _ (G-map (drop_ok s ap' dest) λ C pc σ e o r.
        H-bind _ (pa σ e r) λ ns p. rw (ns', m) (H-known _ refl (H-eq (result_width ty) _ λ w hw. H-need _ Stop.syscall_shape _ λ f. go A C pc σ e o r ns p w f)))
      where
        go : (A C : List Line) → ReceiveOk s dest C
            → (σ : Source) (e : Frame) (o : List ℕ) → Rel s σ e → (ns : List ℕ) → Pushed s (length as') A e ns → (w : Option ℕ) → shaped (shape_of s.world memcmp) (length as') w ≡ true
            → Holds (receive w dest (reply_to (given s) σ.calls).cell (after_call (given s) (Target.syscall memcmp) ns σ)) (λ τ. Ends s (A ++ (Line.sys_memcmp ∷ C)) e o τ o)
        go A C pc σ e o r ns p none f = absurd (no_width (memcmp_result (length as') none f))
        go A C pc σ e o r ns p (some v) f = ends_call s ap' {B = Line.sys_memcmp ∷ []} o ns (Target.syscall memcmp) (length as') (some v) dest r p (replied Line.sys_memcmp memcmp does_memcmp (length as') v σ e f) pc

    -- ---- which of them a callee takes
    named_ok : (dest : Option ℕ) (x : ℕ) (ty : Ty) (as' : List TypedVal) → SoundIndices as'
        → Gives (call_named (ctx s) (name_at s.codegen.names x) dest x ty as') (StepOk s (run_call (given s) dest ty (Value.global x) as'))
    unfolding call_named listed_as
    named_ok dest x ty as' sound = G-choose (is_syscall (name_at s.codegen.names x)) _ _ (λ t. syscall_ok dest x ty as' sound t)
        (λ t. G-choose (is_bcmp (name_at s.codegen.names x) || is_memcmp (name_at s.codegen.names x)) _ _ (λ m. memcmp_ok dest x ty as' sound t m)
        (λ m. plain_ok s ap' dest ty (Value.global x) as' sound (λ y e. let i : x ≡ y = cc in rw (← i, t, m) refl)))

    -- `call`
    pub call_ok : (dest : Option ℕ) (ty : Ty) (v : Value) (as' : List TypedVal) → SoundIndices as' → Gives (gen_call (ctx s) dest ty v as') (StepOk s (run_call (given s) dest ty v as'))
    unfolding gen_call is_global
    call_ok dest ty (Value.global x) as' sound = named_ok dest x ty as' sound
    call_ok dest ty (Value.local x) as' sound = plain_ok s ap' dest ty (Value.local x) as' sound (λ y e. other_value (Value.local x) y refl e)
    call_ok dest ty (Value.int v) as' sound = plain_ok s ap' dest ty (Value.int v) as' sound (λ y e. other_value (Value.int v) y refl e)
    call_ok dest ty (Value.zero z) as' sound = plain_ok s ap' dest ty (Value.zero z) as' sound (λ y e. other_value (Value.zero z) y refl e)
    call_ok dest ty Value.other as' sound = plain_ok s ap' dest ty Value.other as' sound (λ y e. other_value Value.other y refl e)
