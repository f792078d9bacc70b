-- Word 4 of each name, filled from the book's entries.
use Rattle.std.specs.Prelude.{ℕ, zero, suc, ◌+◌, ◌-◌, ◌*◌, ◌<◌, ◌≤◌, ◌^◌, Bool, ◌&&◌, ◌||◌, not, eqb, length, get_or, set}
use Rattle.std.proofs.Math.Path.{◌≡◌, refl, sym, ap, subst}
use Rattle.std.proofs.Common.{◌∙◌, length-set, length-append, length-drop, drop-drop, get_or-set_same, get_or-set_other, eqb-true, eq-eqb, ne_eqb}
use Rattle.std.proofs.Math.Bool.{true, false}
use Rattle.std.proofs.Math.Option.{Option, none, some}
use mathlib.Core.List.{List, [], ◌∷◌, ◌++◌, map}
use native.Mathlib.Omega.{arith}
use Rattle.std.proofs.Math.ListN.{drop}
use Rattle.std.proofs.Math.Seq.{drop-append_seam}
use Rattle.std.proofs.lemmas.Bool.{eqb-false}
use Rattle.book.specs.Entry.{Entry, entry, entries}
use Rattle.book.specs.Ast.{StructBody, StructType, Mark, Book}
use Rattle.book.specs.Rule.{find, pick}
use Rattle.book.specs.Result.{ok_or}
use Rattle.book.specs.Kinds.{TyTag, ty_kind}
use Rattle.book.specs.Decode.{decode, member, distinct, once_each, mark_name, function_names}
use Rattle.book.specs.Encode.{ending, enc_ty, enc_mark, mark_entry, enc_struct, enc_body, enc_functions, encode}
use Rattle.book.specs.Limits.{Each, StructLimits, BodyLimits}
use Rattle.book.proofs.AgreeBook.{Five, functions_begin, decode_sound}
use Rattle.book.specs.Work.{body_at, measured_at, name_words}
use Rattle.book_types.specs.Laws.{entries_part, within_kinds, within_words}
use Rattle.layout.specs.Layout.{body_of, resolve, as_type}
use Rattle.layout_memo.specs.Front.{Starts, ty_len, ty_is, len_is, kind_of, kind_at_lem}
use Rattle.layout_memo.specs.Work.{structs_in, structs_or, Placed, Ready, table_at, table_other, facts_none}
use Rattle.layout_memo.specs.Calls.{lent}

abbrev name_of : StructType → ℕ
name_of s = s.name

-- the entries are a book's
pub record IsBook (m : ℕ) (es : List Entry) : Type 0 where
  pub book : Book
  pub says : decode m es ≡ some book
  pub few : length es ≤ 2 ^ 20

-- ---- marks
pub record MarksAt (m : ℕ) (es : List Entry) (a : ℕ) : Type 0 where
  pub marks : List Mark
  pub tail : List Entry
  pub five : Five tail
  pub here : drop a es ≡ ending enc_mark (ending enc_struct tail (structs_in m es)) marks
  pub limits : Each (StructLimits m) (structs_in m es)
  pub once : distinct (map name_of (structs_in m es)) ≡ true
  pub few : length es ≤ 2 ^ 20

pub record FirstStruct (m : ℕ) (es : List Entry) (a : ℕ) : Type 0 where
  pub tail : List Entry
  pub five : Five tail
  pub here : drop a es ≡ ending enc_struct tail (structs_in m es)
  pub limits : Each (StructLimits m) (structs_in m es)
  pub once : distinct (map name_of (structs_in m es)) ≡ true
  pub few : length es ≤ 2 ^ 20

both : (x y : Bool) → x && y ≡ true → (x ≡ true) × (y ≡ true)
both true true e = (refl, refl)
both true false e = (refl, e)
both false y e = (e, absurd (let z : ◌≡◌ {A = ℕ} 0 1 = cc in omega arith))

pub marks_start : (m : ℕ) (es : List Entry) → IsBook m es → MarksAt m es 0
unfolding structs_in encode once_each
marks_start m es b =
    let s = decode_sound m es b.book b.says in
    let e : structs_in m es ≡ b.book.structs = ap structs_or b.says in
    let marked = distinct (map mark_name b.book.marks) in
    let named = distinct (map name_of b.book.structs) in
    let defined = distinct (function_names b.book) in
    record {
      marks = b.book.marks;
      tail = enc_functions b.book.functions;
      five = functions_begin m b.book.functions s.1.functions;
      here = s.0 ∙ ap (λ (x : List StructType). ending enc_mark (ending enc_struct (enc_functions b.book.functions) x) b.book.marks) (sym e);
      limits = subst (Each (StructLimits m)) (sym e) s.1.structs;
      once = ap (λ (x : List StructType). distinct (map name_of x)) e ∙ (both named defined (both marked (named && defined) s.1.once).1).0;
      few = b.few;
    }

rest_kind : (tail : List Entry) → Five tail → (ss : List StructType) → (kind_of (ending enc_struct tail ss) < 3 → ⊥) × (1 ≤ length (ending enc_struct tail ss))
unfolding kind_of ending enc_struct
rest_kind tail f [] = rw f.1.1 ((λ h. omega arith), omega arith)
rest_kind tail f (s ∷ ss) = (λ h. omega arith, omega arith)

module _ {m : ℕ} {es : List Entry} {a : ℕ} (l : MarksAt m es a) where
  abbrev rest : List Entry
  rest = ending enc_struct l.tail (structs_in m es)

  view : (ms : List Mark) → drop a es ≡ ending enc_mark rest ms
      → ((1 ≤ length (drop a es)) × ((kind_of (drop a es) < 3 → MarksAt m es (a + 1)) × ((kind_of (drop a es) < 3 → ⊥) → FirstStruct m es a)))
  unfolding ending kind_of mark_entry
  view [] h =
      let r = rest_kind l.tail l.five (structs_in m es) in
      (rw h r.1, ((λ k. absurd (r.0 (rw h at k))), λ k. record { tail = l.tail; five = l.five; here = h; limits = l.limits; once = l.once; few = l.few }))
  view (x ∷ ms) h =
      (rw h (omega arith), ((λ k. record { marks = ms; tail = l.tail; five = l.five; here = sym (drop-drop 1 a es) ∙ ap (drop 1) h; limits = l.limits; once = l.once; few = l.few }), λ k. absurd (k (small x h))))
    where
      small : (x : Mark) → drop a es ≡ enc_mark x ++ ending enc_mark rest ms → kind_of (drop a es) < 3
      small (Mark.defined y) e = rw e (omega arith)
      small (Mark.reserved y) e = rw e (omega arith)

  seen : (1 ≤ length (drop a es)) × ((kind_of (drop a es) < 3 → MarksAt m es (a + 1)) × ((kind_of (drop a es) < 3 → ⊥) → FirstStruct m es a))
  seen = view l.marks l.here

  pub marks_there : a + 1 ≤ length es
  marks_there = omega (arith, seen.0, length-drop a es)

module _ (m : ℕ) (ks ws : List ℕ) (a : ℕ) (l : MarksAt m (entries ks ws) a) where
  kind_is : kind_of (drop a (entries ks ws)) ≡ get_or ks a 0
  kind_is = kind_at_lem ks ws a (omega (arith, marks_there l))

  pub marks_kinds : a + 1 ≤ length ks
  marks_kinds = within_kinds (a + 1) ks ws (marks_there l)

  pub marks_next : get_or ks a 0 < 3 → MarksAt m (entries ks ws) (a + 1)
  marks_next h = (seen l).1.0 (rw kind_is h)

  pub marks_done : 3 ≤ get_or ks a 0 → FirstStruct m (entries ks ws) a
  marks_done h = (seen l).1.1 (λ k. let q : get_or ks a 0 < 3 = rw kind_is at k in omega arith)

-- ---- structs
none_found : (ss : List StructType) (x : ℕ) → member x (map name_of ss) ≡ false → find name_of x ss ≡ none
unfolding member find
none_found [] x h = refl
none_found (s ∷ ss) x h = go (eqb x s.name) (member x (map name_of ss)) refl refl (none_found ss x) h
  where
    go : (b c : Bool) → eqb x s.name ≡ b → member x (map name_of ss) ≡ c → (member x (map name_of ss) ≡ false → find name_of x ss ≡ none) → (b || c) ≡ false → pick (eqb s.name x) (some s) (find name_of x ss) ≡ none
    go true c eb ec ih e = absurd (let z : ◌≡◌ {A = ℕ} 0 1 = cc in omega arith)
    go false true eb ec ih e = absurd (let z : ◌≡◌ {A = ℕ} 0 1 = cc in omega arith)
    go false false eb ec ih e = rw (ne_eqb s.name x (λ q. eqb-false x s.name eb (sym q))) (ih ec)

-- the word w of the name x, by whether x is among the structs that are left
abbrev pub Track : (structs left : List StructType) (m : ℕ) (es : List Entry) (x w : ℕ) → Bool → Type 0
Track structs left m es x w true = (w ≡ 0) × (resolve structs x ≡ resolve left x)
Track structs left m es x w false = Placed structs m es x w

pub record Placing (m : ℕ) (es : List Entry) (work : List ℕ) (a : ℕ) : Type 0 where
  pub left : List StructType
  pub tail : List Entry
  pub five : Five tail
  pub here : drop a es ≡ ending enc_struct tail left
  pub limits : Each (StructLimits m) left
  pub once : distinct (map name_of left) ≡ true
  pub track : (x : ℕ) → x < m → Track (structs_in m es) left m es x (get_or work (body_at x) 0) (member x (map name_of left))
  pub blank : (x : ℕ) → x < m → get_or work (measured_at x) 0 ≡ 0
  pub table : (k : ℕ) → get_or work (table_at m k) 0 ≡ 0
  pub room : name_words m ≤ length work
  pub few : length es ≤ 2 ^ 20

-- no word has changed but those of the bodies
pub record BodiesKept (m : ℕ) (work work' : List ℕ) : Type 0 where
  pub long : length work' ≡ length work
  pub same : (i : ℕ) → ((x : ℕ) → x < m → i ≡ body_at x → ⊥) → get_or work' i 0 ≡ get_or work i 0

pub kept_none : {m : ℕ} {work : List ℕ} → BodiesKept m work work
kept_none = record { long = refl; same = λ i n. refl }

pub kept_then : {m : ℕ} {a b c : List ℕ} → BodiesKept m a b → BodiesKept m b c → BodiesKept m a c
kept_then p q = record { long = q.long ∙ p.long; same = λ i n. q.same i n ∙ p.same i n }

pub record NextStruct (m : ℕ) (es : List Entry) (work work' : List ℕ) (a r : ℕ) : Type 0 where
  pub next : Placing m es work' r
  pub more : a < r
  pub kept : BodiesKept m work work'

-- a book, and words of bodies, of measuring and of the table that are 0
pub record Blank (m : ℕ) (es : List Entry) (work : List ℕ) : Type 0 where
  pub book : IsBook m es
  pub room : name_words m ≤ length work
  pub bodies : (x : ℕ) → x < m → get_or work (body_at x) 0 ≡ 0
  pub known : (x : ℕ) → x < m → get_or work (measured_at x) 0 ≡ 0
  pub table : (k : ℕ) → get_or work (table_at m k) 0 ≡ 0

pub record StructsPlaced (m : ℕ) (es : List Entry) (work work' : List ℕ) : Type 0 where
  pub ready : Ready m es work'
  pub kept : BodiesKept m work work'

pub placing_start : (m : ℕ) (es : List Entry) (work : List ℕ) (a : ℕ) → Blank m es work → FirstStruct m es a → Placing m es work a
unfolding resolve body_of
placing_start m es work a b f =
    record {
      left = structs_in m es;
      tail = f.tail;
      five = f.five;
      here = f.here;
      limits = f.limits;
      once = f.once;
      track = λ x l. go x (b.bodies x l) (member x (map name_of (structs_in m es))) refl;
      blank = b.known;
      table = b.table;
      room = b.room;
      few = f.few;
    }
  where
    go : (x : ℕ) → get_or work (body_at x) 0 ≡ 0 → (c : Bool) → member x (map name_of (structs_in m es)) ≡ c → Track (structs_in m es) (structs_in m es) m es x (get_or work (body_at x) 0) c
    go x z true e = (z, refl)
    go x z false e = record { absent = λ q. rw (none_found (structs_in m es) x e) refl; present = λ q. absurd (q z) }

module _ (structs : List StructType) (s : StructType) (ss : List StructType) (m : ℕ) (es : List Entry) (x w w' : ℕ) where
  track_next : distinct (map name_of (s ∷ ss)) ≡ true → ((x ≡ s.name → ⊥) → w' ≡ w) → (x ≡ s.name → w ≡ 0 → resolve structs x ≡ ok_or 6 s.body → Placed structs m es x w')
      → Track structs (s ∷ ss) m es x w (member x (map name_of (s ∷ ss))) → Track structs ss m es x w' (member x (map name_of ss))
  unfolding member distinct resolve find body_of ok_or
  track_next once other own t = go (eqb x s.name) (member x (map name_of ss)) refl refl t
    where
      apart : (c : Bool) → member s.name (map name_of ss) ≡ c → (not c && distinct (map name_of ss)) ≡ true → c ≡ false
      apart true e h = absurd (let z : ◌≡◌ {A = ℕ} 0 1 = cc in omega arith)
      apart false e h = refl

      go : (b c : Bool) → eqb x s.name ≡ b → member x (map name_of ss) ≡ c → Track structs (s ∷ ss) m es x w (b || c) → Track structs ss m es x w' c
      go false true eb ec t =
          let n = eqb-false x s.name eb in
          (other n ∙ t.0, t.1 ∙ rw (ne_eqb s.name x (λ q. n (sym q))) refl)
      go false false eb ec t = rw (other (eqb-false x s.name eb)) t
      go true c eb ec t =
          let q = eqb-true x s.name eb in
          let f : c ≡ false = sym ec ∙ ap (λ (y : ℕ). member y (map name_of ss)) q ∙ apart (member s.name (map name_of ss)) refl once in
          rw f (own q t.0 (t.1 ∙ rw (eq-eqb s.name x (sym q)) refl))

word_at_lem : (ks ws : List ℕ) (a : ℕ) (e : Entry) (tail : List Entry) → drop a (entries ks ws) ≡ e ∷ tail → get_or ws a 0 ≡ e.word
unfolding entries
word_at_lem [] ws a e tail h = absurd (no_entries a h)
  where
    no_entries : (n : ℕ) → drop n [] ≡ e ∷ tail → ⊥
    no_entries zero h = let z : ◌≡◌ {A = ℕ} 0 1 = cc in omega arith
    no_entries (suc n) h = let z : ◌≡◌ {A = ℕ} 0 1 = cc in omega arith
word_at_lem (k ∷ ks) [] a e tail h = absurd (no_entries a h)
  where
    no_entries : (n : ℕ) → drop n [] ≡ e ∷ tail → ⊥
    no_entries zero h = let z : ◌≡◌ {A = ℕ} 0 1 = cc in omega arith
    no_entries (suc n) h = let z : ◌≡◌ {A = ℕ} 0 1 = cc in omega arith
word_at_lem (k ∷ ks) (w ∷ ws) zero e tail h = let q : entry k w ≡ e = cc in ap (λ (x : Entry). x.word) q
word_at_lem (k ∷ ks) (w ∷ ws) (suc a) e tail h = word_at_lem ks ws a e tail h

-- what stands at a place of the structs
body_kind : (b : StructBody) (r : List Entry) → kind_of (enc_ty (as_type b) ++ r) ≡ 4 → ⊥
unfolding kind_of enc_ty
body_kind b r h = go b.packed h
  where
    go : (p : Bool) → ty_kind (TyTag.struct p) ≡ 4 → ⊥
    go true e = omega arith
    go false e = omega arith

module _ (m : ℕ) (ks ws : List ℕ) (work : List ℕ) (a : ℕ) (p : Placing m (entries ks ws) work a) where
  abbrev es : List Entry
  es = entries ks ws

  abbrev structs : List StructType
  structs = structs_in m (entries ks ws)

  last_there : (ss : List StructType) → 1 ≤ length (ending enc_struct p.tail ss)
  last_there ss = (rest_kind p.tail p.five ss).1

  placing_there : a + 1 ≤ length es
  placing_there = omega (arith, ap length p.here, last_there p.left, length-drop a es)

  pub placing_kinds : a + 1 ≤ length ks
  placing_kinds = within_kinds (a + 1) ks ws placing_there

  pub placing_words : a + 1 ≤ length ws
  placing_words = within_words (a + 1) ks ws placing_there

  kind_here : kind_of (drop a es) ≡ get_or ks a 0
  kind_here = kind_at_lem ks ws a (omega (arith, placing_there))

  -- no struct is left
  pub placing_done : (get_or ks a 0 ≡ 3 → ⊥) → Ready m es work
  unfolding ending enc_struct kind_of member
  placing_done n = go p.left refl
    where
      go : (ss : List StructType) → p.left ≡ ss → Ready m es work
      go (s ∷ ss) e = absurd (n (sym kind_here ∙ ap kind_of (p.here ∙ ap (ending enc_struct p.tail) e)))
      go [] e =
          record {
            room = p.room;
            bodies = λ x l. subst (λ (left : List StructType). Track structs left m es x (get_or work (body_at x) 0) (member x (map name_of left))) e (p.track x l);
            known = λ x l. rw (p.blank x l) (record { align = record { right = λ z. absurd (z refl) }; size = record { right = λ z. absurd (z refl) } });
            facts = λ k. facts_none _ _ (p.table (2 * k));
            few = p.few;
          }

  module _ (k3 : get_or ks a 0 ≡ 3) where
    pub record Here : Type 0 where
      pub s : StructType
      pub ss : List StructType
      pub is : p.left ≡ s ∷ ss
      pub name : get_or ws a 0 ≡ s.name
      pub body : drop (a + 1) es ≡ enc_body s.body ++ ending enc_struct p.tail ss

    here : Here
    unfolding ending enc_struct kind_of
    here = go p.left refl
      where
        go : (ss : List StructType) → p.left ≡ ss → Here
        go [] e = absurd (let q : 5 ≡ 3 = sym (ap kind_of (p.here ∙ ap (ending enc_struct p.tail) e ∙ p.five.1.1)) ∙ kind_here ∙ k3 in omega arith)
        go (s ∷ ss) e =
            let h : drop a es ≡ entry 3 s.name ∷ (enc_body s.body ++ ending enc_struct p.tail ss) = p.here ∙ ap (ending enc_struct p.tail) e in
            record { s = s; ss = ss; is = e; name = word_at_lem ks ws a (entry 3 s.name) _ h; body = sym (drop-drop 1 a es) ∙ ap (drop 1) h }

    pub name_below : get_or ws a 0 < m
    name_below = rw here.name (subst (Each (StructLimits m)) here.is p.limits).0.0

    pub body_there : a + 2 ≤ length es
    body_there = omega (arith, ap length here.body, length-append (enc_body here.s.body) (ending enc_struct p.tail here.ss), last_there here.ss, length-drop (a + 1) es)

    pub body_in_kinds : a + 2 ≤ length ks
    body_in_kinds = within_kinds (a + 2) ks ws body_there

    pub body_in_words : a + 2 ≤ length ws
    body_in_words = within_words (a + 2) ks ws body_there

    kind_body : kind_of (drop (a + 1) es) ≡ get_or ks (a + 1) 0
    kind_body = kind_at_lem ks ws (a + 1) (omega (arith, body_there))

    later : distinct (map name_of (here.s ∷ here.ss)) ≡ true → distinct (map name_of here.ss) ≡ true
    unfolding distinct
    later e = (both (not (member here.s.name (map name_of here.ss))) (distinct (map name_of here.ss)) e).1

    once_here : distinct (map name_of (here.s ∷ here.ss)) ≡ true
    once_here = ap (λ (x : List StructType). distinct (map name_of x)) (sym here.is) ∙ p.once

    limits_here : Each (StructLimits m) (here.s ∷ here.ss)
    limits_here = subst (Each (StructLimits m)) here.is p.limits

    track_here : (x : ℕ) → x < m → Track structs (here.s ∷ here.ss) m es x (get_or work (body_at x) 0) (member x (map name_of (here.s ∷ here.ss)))
    track_here x l = subst (λ (left : List StructType). Track structs left m es x (get_or work (body_at x) 0) (member x (map name_of left))) here.is (p.track x l)

    -- an opaque struct
    pub next_opaque : get_or ks (a + 1) 0 ≡ 4 → NextStruct m es work work a (a + 2)
    unfolding ok_or
    next_opaque k4 = go here.s.body refl
      where
        go : (b : Option StructBody) → here.s.body ≡ b → NextStruct m es work work a (a + 2)
        go (some b) e = absurd (body_kind b (ending enc_struct p.tail here.ss) (sym (ap kind_of (here.body ∙ ap (λ (x : Option StructBody). enc_body x ++ ending enc_struct p.tail here.ss) e)) ∙ kind_body ∙ k4))
        go none e =
            let d : drop (a + 2) es ≡ ending enc_struct p.tail here.ss =
            ap (λ (n : ℕ). drop n es) (let q : a + 2 ≡ a + 1 + 1 = omega arith in q) ∙ sym (drop-drop 1 (a + 1) es) ∙ ap (drop 1) (here.body ∙ ap (λ (x : Option StructBody). enc_body x ++ ending enc_struct p.tail here.ss) e) in
            record {
              next = record {
                left = here.ss;
                tail = p.tail;
                five = p.five;
                here = d;
                limits = limits_here.1;
                once = later once_here;
                track = λ x l. track_next structs here.s here.ss m es x (get_or work (body_at x) 0) (get_or work (body_at x) 0) once_here (λ n. refl)
                    (λ q z r. record { absent = λ y. r ∙ ap (ok_or 6) e; present = λ y. absurd (y z) }) (track_here x l);
                blank = p.blank;
                table = p.table;
                room = p.room;
                few = p.few;
              };
              more = omega arith;
              kept = kept_none;
            }

    -- a struct with a body: n entries from a + 1 on
    module _ (k4 : get_or ks (a + 1) 0 ≡ 4 → ⊥) where
      with_body : (b : StructBody) × (here.s.body ≡ some b)
      unfolding kind_of
      with_body = go here.s.body refl
        where
          go : (o : Option StructBody) → here.s.body ≡ o → (b : StructBody) × (here.s.body ≡ some b)
          go (some b) e = (b, e)
          go none e = absurd (k4 (sym kind_body ∙ ap kind_of (here.body ∙ ap (λ (x : Option StructBody). enc_body x ++ ending enc_struct p.tail here.ss) e)))

      abbrev b : StructBody
      b = with_body.0

      behind : drop (a + 1) es ≡ enc_ty (as_type b) ++ ending enc_struct p.tail here.ss
      behind = here.body ∙ ap (λ (x : Option StructBody). enc_body x ++ ending enc_struct p.tail here.ss) with_body.1

      front : Starts m (drop (a + 1) es)
      front = record { ty = as_type b; rest = ending enc_struct p.tail here.ss; here = behind; keeps = subst (BodyLimits m) with_body.1 limits_here.0.1; few = omega (arith, p.few, length-drop (a + 1) es) }

      own_body : (x : ℕ) → resolve structs x ≡ ok_or 6 here.s.body → Placed structs m es x (a + 1 + 1)
      unfolding ok_or front
      own_body x r =
          let q : a + 1 + 1 - 1 ≡ a + 1 = omega arith in
          record {
            absent = λ z. absurd (omega arith);
            present = λ z. rw q (record { body = b; resolved = r ∙ ap (ok_or 6) with_body.1; front = front; same = ty_is front; there = omega (arith, body_there) });
          }

      module _ (n : ℕ) (en : n ≡ ty_len m (lent ks ws (a + 1))) where
        length_is : n ≡ length (enc_ty (as_type b))
        unfolding front
        length_is = en ∙ ap (ty_len m) (entries_part (a + 1) ks ws) ∙ len_is front

        after : drop (a + 1 + n) es ≡ ending enc_struct p.tail here.ss
        after =
            sym (drop-drop n (a + 1) es) ∙ ap (λ (j : ℕ). drop j (drop (a + 1) es)) length_is ∙ ap (drop (length (enc_ty (as_type b)))) behind
            ∙ drop-append_seam (enc_ty (as_type b)) (ending enc_struct p.tail here.ss)

        pub body_fits : a + 1 + n + 1 ≤ 1048577
        body_fits = omega (arith, length_is, ap length behind, length-append (enc_ty (as_type b)) (ending enc_struct p.tail here.ss), length-drop (a + 1) es, p.few, body_there)

        abbrev at : ℕ
        at = body_at (get_or ws a 0)

        word_next : (x : ℕ) → x < m → Track structs here.ss m es x (get_or (set work at (a + 1 + 1)) (body_at x) 0) (member x (map name_of here.ss))
        word_next x l =
            track_next structs here.s here.ss m es x (get_or work (body_at x) 0) (get_or (set work at (a + 1 + 1)) (body_at x) 0) once_here
            (λ f. get_or-set_other work at (body_at x) (a + 1 + 1) 0 (λ y. f (let q : x ≡ get_or ws a 0 = omega arith in q ∙ here.name)))
            (λ f z r.
            let i : body_at x ≡ at = ap body_at (f ∙ sym here.name) in
            let s : at < length work = omega (arith, name_below, p.room) in
            rw (i, get_or-set_same work at (a + 1 + 1) 0 s) (own_body x r))
            (track_here x l)

        pub next_body : NextStruct m es work (set work at (a + 1 + 1)) a (a + 1 + n)
        next_body =
            record {
              next = record {
                left = here.ss;
                tail = p.tail;
                five = p.five;
                here = after;
                limits = limits_here.1;
                once = later once_here;
                track = word_next;
                blank = λ x l. get_or-set_other work at (measured_at x) (a + 1 + 1) 0 (λ y. omega arith) ∙ p.blank x l;
                table = λ k. get_or-set_other work at (table_at m k) (a + 1 + 1) 0 (table_other m k (get_or ws a 0) 4 (omega arith) (λ e. omega arith) name_below) ∙ p.table k;
                room = omega (arith, p.room, length-set work at (a + 1 + 1));
                few = p.few;
              };
              more = omega arith;
              kept = record { long = length-set work at (a + 1 + 1); same = λ i f. get_or-set_other work at i (a + 1 + 1) 0 (f (get_or ws a 0) name_below) };
            }

-- what `place_struct` asks
pub record AtStruct (m : ℕ) (ks ws : List ℕ) (work : List ℕ) (a : ℕ) : Type 0 where
  pub placing : Placing m (entries ks ws) work a
  pub kind : get_or ks a 0 ≡ 3
