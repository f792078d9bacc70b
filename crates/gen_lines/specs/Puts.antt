-- What a generator of lines leaves behind: `Puts g` says that the code did what the definition g says. Lines go from a place on into two slices, as far as these
-- reach; a counter is a word, so the definition's counter is meant modulo 2^64, and so are the operands.
use Rattle.std.specs.Prelude.{◌≡◌, ℕ, suc, ◌+◌, ◌%◌, ◌^◌, ◌<◌, ◌≤◌, min, Bool, true, false, not, List, [], ◌∷◌, ◌++◌, map, length, ◌==◌, ◌≢◌, nat_le, slice_set, refl}
use Rattle.std.proofs.Common.{sym, ap, subst, ◌∙◌, arith, add-zero, leb-true, leb-false, ne_eqb, length-append, length-set}
use Rattle.std.proofs.lemmas.List.Edits.{sets}
use Rattle.std.proofs.Math.Seq.{length-sets, set_out}
use Rattle.book.specs.Result.{Result, ok, err, bind}
use Rattle.assembly.specs.Line.{Line}
use Rattle.assembly.specs.Number.{kind_of, operand_of}
use Rattle.lowering.specs.Gen.{Gen, Out, lines, line, skip, refuse, after, ◌>>◌}
use Rattle.gen_lines.specs.declared.Reached.{Reached}

-- counting ends at 2^62
abbrev pub most : ℕ
most = 4611686018427387904

-- the place behind n lines more
abbrev pub further : ℕ → ℕ → ℕ
further at n = min (at + n) most

-- a line of this kind and operand was put
pub record Lined (kind operand : ℕ) (s t : Reached) (ks os ks' os' : List ℕ) : Type 0 where
  pub place : t.at ≡ further s.at 1
  pub counter : t.counter ≡ s.counter
  pub refused : t.refused ≡ s.refused
  pub kinds : ks' ≡ slice_set ks s.at kind
  pub operands : os' ≡ slice_set os s.at operand

-- a generator refused
abbrev pub is_refused : Reached → Bool
is_refused s = not (s.refused == 0)

abbrev pub or_else : {A : Type 0} → Bool → A → A → A
or_else true a b = a
or_else false a b = b

-- behind a refusal, unless one came before
abbrev pub made_refused : Reached → ℕ → Reached
made_refused s e = or_else (is_refused s) s (record { at = s.at; counter = s.counter; refused = e })

-- behind k labels
abbrev pub made_fresh : Reached → ℕ → Reached
made_fresh s k = record { at = s.at; counter = (s.counter + k) % 2 ^ 64; refused = s.refused }

-- ---- what a generator leaves
-- an operand as a word
abbrev pub operand_word : Line → ℕ
operand_word l = operand_of l % 2 ^ 64

-- these lines were put from a place on
pub record Wrote (out : Out) (at : ℕ) (t : Reached) (ks os ks' os' : List ℕ) : Type 0 where
  pub going : is_refused t ≡ false
  pub place : t.at ≡ further at (length out.lines)
  pub next : t.counter ≡ out.next % 2 ^ 64
  pub kinds : ks' ≡ sets ks at (map kind_of out.lines)
  pub operands : os' ≡ sets os at (map operand_word out.lines)

-- refused with this number
pub record Barred (e : ℕ) (t : Reached) : Type 0 where
  pub refused : is_refused t ≡ true
  pub number : t.refused ≡ e

abbrev pub After : Result Out → (at : ℕ) → Reached → (ks os ks' os' : List ℕ) → Type 0
After (ok out) at t ks os ks' os' = Wrote out at t ks os ks' os'
After (err e) at t ks os ks' os' = Barred e t

-- nothing is refused so far, and the definition's counter is n
pub record Able (s : Reached) (ks os : List ℕ) (n : ℕ) : Type 0 where
  pub going : is_refused s ≡ false
  pub within : s.at ≤ most
  pub few_kinds : length ks ≤ most
  pub few_operands : length os ≤ most
  pub counts : s.counter ≡ n % 2 ^ 64

-- the code went from s to t as g says. Left free: what the slices hold where g refuses; lent slices are passed over only where it does not
pub record Puts (g : Gen) (s t : Reached) (ks os ks' os' : List ℕ) : Type 0 where
  pub long_kinds : length ks' ≡ length ks
  pub long_operands : length os' ≡ length os
  pub stays : is_refused s ≡ true → Barred s.refused t
  pub goes : (n : ℕ) → Able s ks os n → After (g n) s.at t ks os ks' os'

-- the word is the same
pub still : {x y : ℕ} → x ≡ y → not (x == 0) ≡ not (y == 0)
still = ap (λ (x : ℕ). not (x == 0))

-- ---- one line
pub line_puts : {k x : ℕ} {s t : Reached} {ks os ks' os' : List ℕ} (l : Line) → k ≡ kind_of l → x ≡ operand_word l → Lined k x s t ks os ks' os'
    → Puts (line l) s t ks os ks' os'
unfolding line lines
line_puts {k} {x} {s} {t} {ks} {os} l ek ex h =
    record {
      long_kinds = ap length h.kinds ∙ length-set ks s.at k;
      long_operands = ap length h.operands ∙ length-set os s.at x;
      stays = λ r. record { refused = still h.refused ∙ r; number = h.refused };
      goes = λ n a. record {
        going = still h.refused ∙ a.going;
        place = h.place;
        next = h.counter ∙ a.counts;
        kinds = h.kinds ∙ ap (slice_set ks s.at) ek;
        operands = h.operands ∙ ap (slice_set os s.at) ex;
      };
    }

-- ---- behind a refusal nothing need be done
pub refused_puts : {g : Gen} {s : Reached} (ks os : List ℕ) → (s.refused ≢ 0) → Puts g s s ks os ks os
refused_puts {g} {s} ks os z =
    record {
      long_kinds = refl;
      long_operands = refl;
      stays = λ r. record { refused = r; number = refl };
      goes = λ n a. absurd (let q : true ≡ false = sym (ap not (ne_eqb s.refused 0 z)) ∙ a.going in let d : ◌≡◌ {A = ℕ} 0 1 = cc in omega arith);
    }

-- ---- no line
pub skip_puts : (s : Reached) (ks os : List ℕ) → Puts skip s s ks os ks os
unfolding skip lines
skip_puts s ks os =
    record {
      long_kinds = refl;
      long_operands = refl;
      stays = λ r. record { refused = r; number = refl };
      goes = λ n a. record { going = a.going; place = omega (arith, a.within); next = a.counts; kinds = refl; operands = refl };
    }

-- ---- a refusal: its number is not 0
module _ (e : ℕ) (positive : 0 < e) (s : Reached) {t : Reached} where
  -- one that came before stays
  pub refused_before : t ≡ made_refused s e → is_refused s ≡ true → Barred s.refused t
  refused_before h r = let q : t ≡ s = h ∙ rw r in record { refused = ap is_refused q ∙ r; number = ap (λ (x : Reached). x.refused) q }

  pub refused_now : t ≡ made_refused s e → is_refused s ≡ false → Barred e t
  refused_now h r =
      let q : t ≡ record { at = s.at; counter = s.counter; refused = e } = h ∙ rw r in
      record { refused = ap is_refused q ∙ ap not (ne_eqb e 0 (λ z. omega arith)); number = ap (λ (x : Reached). x.refused) q }

  -- behind a refusal there is one
  pub made_refused_lem : t ≡ made_refused s e → is_refused t ≡ true
  made_refused_lem h = go (is_refused s) refl
    where
      go : (b : Bool) → is_refused s ≡ b → is_refused t ≡ true
      go true r = (refused_before h r).refused
      go false r = (refused_now h r).refused

  pub refuse_puts : (ks os : List ℕ) → t ≡ made_refused s e → Puts (refuse e) s t ks os ks os
  unfolding refuse
  refuse_puts ks os h = record { long_kinds = refl; long_operands = refl; stays = refused_before h; goes = λ n a. refused_now h a.going }

-- ---- the same generator
pub same_puts : {g h : Gen} {s t : Reached} {ks os ks' os' : List ℕ} → ((n : ℕ) → g n ≡ h n) → Puts g s t ks os ks' os' → Puts h s t ks os ks' os'
same_puts {g} {h} {s} {t} {ks} {os} {ks'} {os'} e p =
    record {
      long_kinds = p.long_kinds;
      long_operands = p.long_operands;
      stays = p.stays;
      goes = λ n a. subst (λ (r : Result Out). After r s.at t ks os ks' os') (e n) (p.goes n a);
    }

-- ---- one after the other
sets_out : (l : List ℕ) (i : ℕ) (vs : List ℕ) → length l ≤ i → sets l i vs ≡ l
sets_out l i [] h = refl
sets_out l i (v ∷ vs) h = sets_out (slice_set l i v) (suc i) vs (omega (arith, length-set l i v)) ∙ set_out l i v h

sets_append : (l : List ℕ) (i : ℕ) (us vs : List ℕ) → sets l i (us ++ vs) ≡ sets (sets l i us) (i + length us) vs
sets_append l i [] vs = rw (add-zero i)
sets_append l i (u ∷ us) vs = sets_append (slice_set l i u) (suc i) us vs ∙ ap (λ j. sets (sets (slice_set l i u) (suc i) us) j vs) (omega arith)

-- what is put behind what was put
sets_then : (l : List ℕ) (i : ℕ) (us vs : List ℕ) (n : ℕ) → n ≡ length us → length l ≤ most → sets (sets l i us) (further i n) vs ≡ sets l i (us ++ vs)
sets_then l i us vs n e few = go (nat_le (i + n) most) refl
  where
    go : (b : Bool) → nat_le (i + n) most ≡ b → sets (sets l i us) (further i n) vs ≡ sets l i (us ++ vs)
    go true h = let f : further i n ≡ i + length us = omega (arith, leb-true (i + n) most h) in ap (λ j. sets (sets l i us) j vs) f ∙ sym (sets_append l i us vs)
    go false h =
        let g = leb-false (i + n) most h in
        let f : further i n ≡ most = omega arith in
        ap (λ j. sets (sets l i us) j vs) f
        ∙ sets_out (sets l i us) most vs (omega (arith, length-sets l i us))
        ∙ sym (sets_out (sets l i us) (i + length us) vs (omega (arith, length-sets l i us)))
        ∙ sym (sets_append l i us vs)

pub map_length : (f : Line → ℕ) (ls : List Line) → length (map f ls) ≡ length ls
map_length f [] = refl
map_length f (l ∷ ls) = ap suc (map_length f ls)

map-append : (f : Line → ℕ) (ls ms : List Line) → map f (ls ++ ms) ≡ map f ls ++ map f ms
map-append f [] ms = refl
map-append f (l ∷ ls) ms = ap (λ r. f l ∷ r) (map-append f ls ms)

module _ {g h : Gen} {s t u : Reached} {ks os ks' os' ks'' os'' : List ℕ} where
  pub then_puts : Puts g s t ks os ks' os' → Puts h t u ks' os' ks'' os'' → Puts (g >> h) s u ks os ks'' os''
  unfolding ◌>>◌ bind after
  then_puts p q =
      record {
        long_kinds = q.long_kinds ∙ p.long_kinds;
        long_operands = q.long_operands ∙ p.long_operands;
        stays = λ r. let b = p.stays r in let d = q.stays b.refused in record { refused = d.refused; number = d.number ∙ b.number };
        goes = λ n a. first n a (g n) (p.goes n a);
      }
    where
      able : (n : ℕ) → Able s ks os n → (out : Out) → Wrote out s.at t ks os ks' os' → Able t ks' os' out.next
      able n a out w =
          record {
            going = w.going;
            within = omega (arith, w.place);
            few_kinds = omega (arith, p.long_kinds, a.few_kinds);
            few_operands = omega (arith, p.long_operands, a.few_operands);
            counts = w.next;
          }

      both : (n : ℕ) → Able s ks os n → (out : Out) → Wrote out s.at t ks os ks' os' → (r : Result Out) → After r t.at u ks' os' ks'' os''
          → After (bind r (λ q. ok (after out.lines q))) s.at u ks os ks'' os''
      both n a out w (err e) b = b
      both n a out w (ok more) v =
          record {
            going = v.going;
            place = v.place ∙ rw w.place (omega (arith, length-append out.lines more.lines));
            next = v.next;
            kinds = v.kinds ∙ rw (w.kinds, w.place) (sets_then ks s.at (map kind_of out.lines) (map kind_of more.lines) (length out.lines) (sym (map_length kind_of out.lines)) a.few_kinds ∙ ap (sets ks s.at) (sym (map-append kind_of out.lines more.lines)));
            operands = v.operands ∙ rw (w.operands, w.place) (sets_then os s.at (map operand_word out.lines) (map operand_word more.lines) (length out.lines) (sym (map_length operand_word out.lines)) a.few_operands ∙ ap (sets os s.at) (sym (map-append operand_word out.lines more.lines)));
          }

      first : (n : ℕ) → Able s ks os n → (r : Result Out) → After r s.at t ks os ks' os'
          → After (bind r (λ p. bind (h p.next) (λ q. ok (after p.lines q)))) s.at u ks os ks'' os''
      first n a (err e) b = let d = q.stays b.refused in record { refused = d.refused; number = d.number ∙ b.number }
      first n a (ok out) w = both n a out w (h out.next) (q.goes out.next (able n a out w))
