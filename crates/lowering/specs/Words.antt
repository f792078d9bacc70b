-- Ways of generating whose numbers fit a word: what the law of `Fits` is made of. A `push` and a `get_arg` keep below 2^64 by themselves, a numbered label
-- below the counter that is reached.
use Rattle.std.specs.Prelude.{ℕ, suc, ◌+◌, ◌<◌, ◌≤◌, ◌^◌, ◌≡◌, refl, Bool, true, false, List, [], ◌∷◌, ◌++◌}
use Rattle.std.proofs.Common.{ap, subst, arith}
use Rattle.book.specs.Result.{Result, ok, bind, err_no_ok, bind_ok}
use Rattle.book.specs.Limits.{Each}
use Rattle.assembly.specs.Line.{Line, Hint}
use Rattle.lowering.specs.Gen.{Out, Gen, lines, line, skip, refuse, after, ◌>>=◌, ◌>>◌, when, choose, fresh, reserve, each}

-- the number that a line pushes, or the argument that it gets
abbrev pub number_of : Line → ℕ
number_of (Line.comment x) = 0
number_of (Line.fn_label x) = 0
number_of (Line.block_label x) = 0
number_of (Line.jmp_block x) = 0
number_of (Line.push_name x) = 0
number_of (Line.call x k) = 0
number_of (Line.syscall x) = 0
number_of (Line.push0n n) = 0
number_of (Line.push n) = n
number_of (Line.get_arg n) = n
number_of (Line.get_local n) = 0
number_of (Line.set_local n) = 0
number_of (Line.call_fp n) = 0
number_of (Line.label h n) = 0
number_of (Line.jump h n) = 0
number_of (Line.bin op w) = 0
number_of (Line.icmp p w) = 0
number_of (Line.trunc n) = 0
number_of (Line.sx8 w) = 0
number_of (Line.sx16 w) = 0
number_of Line.sx32 = 0
number_of (Line.load m) = 0
number_of (Line.store m) = 0
number_of Line.atomic_load = 0
number_of Line.atomic_store = 0
number_of Line.atomic_cas = 0
number_of Line.sys_memcmp = 0
number_of Line.dup = 0
number_of Line.pop = 0
number_of Line.ret = 0
number_of Line.panic = 0
number_of Line.thread_get = 0
number_of Line.thread_set = 0
number_of Line.blank = 0

-- one more than a numbered label
abbrev pub label_end : Line → ℕ
label_end (Line.comment x) = 0
label_end (Line.fn_label x) = 0
label_end (Line.block_label x) = 0
label_end (Line.jmp_block x) = 0
label_end (Line.push_name x) = 0
label_end (Line.call x k) = 0
label_end (Line.syscall x) = 0
label_end (Line.push0n n) = 0
label_end (Line.push n) = 0
label_end (Line.get_arg n) = 0
label_end (Line.get_local n) = 0
label_end (Line.set_local n) = 0
label_end (Line.call_fp n) = 0
label_end (Line.label h n) = suc n
label_end (Line.jump h n) = suc n
label_end (Line.bin op w) = 0
label_end (Line.icmp p w) = 0
label_end (Line.trunc n) = 0
label_end (Line.sx8 w) = 0
label_end (Line.sx16 w) = 0
label_end Line.sx32 = 0
label_end (Line.load m) = 0
label_end (Line.store m) = 0
label_end Line.atomic_load = 0
label_end Line.atomic_store = 0
label_end Line.atomic_cas = 0
label_end Line.sys_memcmp = 0
label_end Line.dup = 0
label_end Line.pop = 0
label_end Line.ret = 0
label_end Line.panic = 0
label_end Line.thread_get = 0
label_end Line.thread_set = 0
label_end Line.blank = 0

pub record Word (next : ℕ) (l : Line) : Type 0 where
  pub small : number_of l < 2 ^ 64
  pub below : label_end l ≤ next

-- generated so from a counter of k or more
pub record Words (k : ℕ) (g : Gen) : Type 0 where
  pub grows : (n : ℕ) (o : Out) → g n ≡ ok o → k ≤ n → n ≤ o.next
  pub words : (n : ℕ) (o : Out) → g n ≡ ok o → k ≤ n → Each (Word o.next) o.lines

words_up : (a b : ℕ) (ls : List Line) → a ≤ b → Each (Word a) ls → Each (Word b) ls
words_up a b [] h p = tt
words_up a b (l ∷ ls) h p = (record { small = p.0.small; below = omega (arith, p.0.below) }, words_up a b ls h p.1)

words_append : (n : ℕ) (ls ms : List Line) → Each (Word n) ls → Each (Word n) ms → Each (Word n) (ls ++ ms)
words_append n [] ms p q = q
words_append n (l ∷ ls) ms p q = (p.0, words_append n ls ms p.1 q)

out_same : {o p : Out} → ok o ≡ ok p → o ≡ p
out_same h = cc

-- ---- the ways of generating
pub lines_words : (k : ℕ) (ls : List Line) → Each (Word k) ls → Words k (lines ls)
unfolding lines
lines_words k ls p =
    record {
      grows = λ n o h l. let e : n ≡ o.next = ap (λ (q : Out). q.next) (out_same h) in omega arith;
      words = λ n o h l. subst (λ (q : Out). Each (Word q.next) q.lines) (out_same h) (words_up k n ls l p);
    }

pub line_words : (k : ℕ) (l : Line) → Word k l → Words k (line l)
unfolding line
line_words k l p = lines_words k (l ∷ []) (p, tt)

pub skip_words : (k : ℕ) → Words k skip
unfolding skip
skip_words k = lines_words k [] tt

pub refuse_words : (k e : ℕ) → Words k (refuse e)
unfolding refuse
refuse_words k e = record { grows = λ n o h. err_no_ok e o h; words = λ n o h. err_no_ok e o h }

pub bind_words : {A : Type 0} (k : ℕ) (r : Result A) (g : A → Gen) → ((a : A) → r ≡ ok a → Words k (g a)) → Words k (r >>= g)
unfolding ◌>>=◌
bind_words k r g t =
    record {
      grows = λ n o h. let x = bind_ok r (λ a. g a n) o h in (t x.0 x.1).grows n o x.2;
      words = λ n o h. let x = bind_ok r (λ a. g a n) o h in (t x.0 x.1).words n o x.2;
    }

pub any_words : {A : Type 0} (k : ℕ) (r : Result A) (g : A → Gen) → ((a : A) → Words k (g a)) → Words k (r >>= g)
any_words k r g t = bind_words k r g (λ a h. t a)

pub then_words : (k : ℕ) (g h : Gen) → Words k g → Words k h → Words k (g >> h)
unfolding ◌>>◌ after
then_words k g h s t = record { grows = grows; words = words }
  where
    grows : (n : ℕ) (o : Out) → bind (g n) (λ p. bind (h p.next) (λ q. ok (after p.lines q))) ≡ ok o → k ≤ n → n ≤ o.next
    grows n o e l =
        let x = bind_ok (g n) (λ p. bind (h p.next) (λ q. ok (after p.lines q))) o e in
        let y = bind_ok (h x.0.next) (λ q. ok (after x.0.lines q)) o x.2 in
        let a : n ≤ x.0.next = s.grows n x.0 x.1 l in
        let b : x.0.next ≤ y.0.next = t.grows x.0.next y.0 y.1 (omega arith) in
        let d : y.0.next ≡ o.next = ap (λ (q : Out). q.next) (out_same y.2) in
        omega arith

    words : (n : ℕ) (o : Out) → bind (g n) (λ p. bind (h p.next) (λ q. ok (after p.lines q))) ≡ ok o → k ≤ n → Each (Word o.next) o.lines
    words n o e l =
        let x = bind_ok (g n) (λ p. bind (h p.next) (λ q. ok (after p.lines q))) o e in
        let y = bind_ok (h x.0.next) (λ q. ok (after x.0.lines q)) o x.2 in
        let a : n ≤ x.0.next = s.grows n x.0 x.1 l in
        let b : x.0.next ≤ y.0.next = t.grows x.0.next y.0 y.1 (omega arith) in
        subst (λ (q : Out). Each (Word q.next) q.lines) (out_same y.2)
        (words_append y.0.next x.0.lines y.0.lines (words_up x.0.next y.0.next x.0.lines b (s.words n x.0 x.1 l))
        (t.words x.0.next y.0 y.1 (omega arith)))

pub when_words : (k : ℕ) (b : Bool) (g : Gen) → Words k g → Words k (when b g)
unfolding when
when_words k true g t = t
when_words k false g t = skip_words k

pub choose_words : (k : ℕ) (b : Bool) (g h : Gen) → Words k g → Words k h → Words k (choose b g h)
unfolding choose
choose_words k true g h s t = s
choose_words k false g h s t = t

pub fresh_words : (k : ℕ) (g : ℕ → Gen) → ((l : ℕ) → k ≤ l → Words (suc l) (g l)) → Words k (fresh g)
unfolding fresh
fresh_words k g t =
    record {
      grows = λ n o h l. let q = (t n l).grows (suc n) o h (omega arith) in omega arith;
      words = λ n o h l. (t n l).words (suc n) o h (omega arith);
    }

pub reserve_words : (k j : ℕ) (g : ℕ → Gen) → ((l : ℕ) → k ≤ l → Words (l + j) (g l)) → Words k (reserve j g)
unfolding reserve
reserve_words k j g t =
    record {
      grows = λ n o h l. let q = (t n l).grows (n + j) o h (omega arith) in omega arith;
      words = λ n o h l. (t n l).words (n + j) o h (omega arith);
    }

pub each_words : {A : Type 0} (k : ℕ) (f : A → Gen) (xs : List A) → ((x : A) → Words k (f x)) → Words k (each f xs)
unfolding each
each_words k f [] t = skip_words k
each_words k f (x ∷ xs) t = then_words k (f x) (each f xs) (t x) (each_words k f xs t)

-- ---- lines
-- one without a number
pub bare_words : (k : ℕ) (l : Line) → number_of l ≡ 0 → label_end l ≡ 0 → Words k (line l)
bare_words k l a b = line_words k l (record { small = omega arith; below = omega arith })

pub number_words : (k n : ℕ) → n < 2 ^ 64 → Words k (line (Line.push n))
number_words k n h = line_words k (Line.push n) (record { small = h; below = omega arith })

pub label_words : (k : ℕ) (h : Hint) (l : ℕ) → l < k → Words k (line (Line.label h l))
label_words k h l p = line_words k (Line.label h l) (record { small = omega arith; below = p })

pub jump_words : (k : ℕ) (h : Hint) (l : ℕ) → l < k → Words k (line (Line.jump h l))
jump_words k h l p = line_words k (Line.jump h l) (record { small = omega arith; below = p })

pub ruleset worded = (any_words, then_words, when_words, choose_words, skip_words, refuse_words, each_words, bare_words, refl)
