-- What is still to come in a list of blocks, at any place inside it: the fields that the last instruction or terminator still wants,
-- the rest of its block, the blocks behind that. One pass over the entries goes by it.
use Rattle.std.specs.Prelude.{ℕ, zero, suc, ◌+◌, ◌/◌, ◌%◌, ◌≤◌, ◌<◌, ◌^◌, ◌⊎◌, Bool, ◌&&◌, ◌||◌, not, length, get_or, drop, ltb}
use Rattle.std.proofs.Math.Path.{◌≡◌, refl, ap}
use Rattle.std.proofs.Common.{sym, ◌∙◌, inl, inr, ⊎_elim, arith, length-drop, drop_of_length-le, drop-drop}
use Rattle.std.proofs.Math.Bool.{true, false, or-false}
use Rattle.std.proofs.Math.Option.{none, some}
use mathlib.Core.List.{List, [], ◌∷◌, map}
use borrow.Author.Tests.{eqb-true, eqb-false, eq-eqb, ne_eqb, leb-true, leb-false, lt-ltb, le-ltb}
use Rattle.std.proofs.Math.Dec.{eqb, leb}
use Rattle.book.specs.Entry.{Entry, entry, entries}
use Rattle.book.specs.Fields as book
use Rattle.book.specs.Read.{stops, mapped, both, until, one, word, is_closing, closing, many}
use Rattle.book.specs.Decode.{inst, term, tagged, body, basic_block, name}
use Rattle.book.specs.Forbidden.{any, other_field, other_term, other_inst, forbidden_inst, forbidden_block}
use Rattle.book.proofs.AgreeInst.{agrees_field}
use Rattle.book_types.specs.Found.{found, found_of, joined, followed_by, all_test, never}
use Rattle.book_types.specs.Laws.{entry_at, entries_part, length_entries, lent_from}
use Rattle.book_types.specs.Passes.{joined_joined, joined_none, followed_joined, followed_twice, both_found, mapped_found, many_found, until_end, until_item, found_fits}
use Rattle.std.specs.Prelude as code
use Rattle.std.specs.Prelude.{Some, None}
use Rattle.book_types.specs.declared.Found.{Found}
use Rattle.book_insts.specs.Insts.{digit_of, field_by, fields_behind}
use Rattle.book_insts.specs.declared.Field.{Field}
use Rattle.book_insts.specs.InstLaws as insts
use Rattle.book_insts.specs.InstLaws.{field_found, fields_found}
use Rattle.book_insts.specs.Rules.{Alone}
use Rattle.book_blocks.specs.Calls.{behind_call, call_barred, forbidden_body, call_also}

-- the end of the entries is within both slices
pub record Ends (ks ws : List ℕ) (end : ℕ) : Type 0 where
  pub all : end ≡ length (entries ks ws)
  pub kinds : end ≤ length ks
  pub words : end ≤ length ws

pub ends_there : (ks ws : List ℕ) (end : ℕ) → end ≡ length (entries ks ws) → Ends ks ws end
ends_there ks ws end e = record { all = e; kinds = omega (arith, length_entries ks ws); words = omega (arith, length_entries ks ws) }

-- the entry that closes the list; an entry that is no block's head
abbrev closes : Entry → Bool
closes e = eqb e.kind 0 && eqb e.word 0

abbrev no_head : ℕ → Entry → Bool
no_head m e = not (eqb e.kind 7) || leb m e.word

module _ (barred : ℕ → Bool) (m : ℕ) where
  -- ---- what is to come: i and j bound the instructions and the blocks
  abbrev blocks_from : ℕ → List Entry → code.Option Found
  blocks_from j es = found_of (all_test (forbidden_block barred) never) (until is_closing (basic_block m) closing j es)

  abbrev body_only : ℕ → List Entry → code.Option Found
  body_only i es = found_of (forbidden_body barred) (until (leb 90) (inst m) (term m) i es)

  abbrev body_from : ℕ → ℕ → List Entry → code.Option Found
  body_from i j es = followed_by (body_only i es) (blocks_from j) es

  -- inside a block or not
  abbrev open_from : Bool → ℕ → ℕ → List Entry → code.Option Found
  open_from true i j es = body_from i j es
  open_from false i j es = blocks_from j es

  abbrev rest_from : List book.Field → Bool → ℕ → ℕ → List Entry → code.Option Found
  rest_from fs inside i j es = followed_by (fields_found m fs es) (open_from inside i j) es

  -- ---- fields
  rest_none : (inside : Bool) (i j : ℕ) (es : List Entry) → rest_from [] inside i j es ≡ open_from inside i j es
  rest_none inside i j es = ap (λ f. followed_by f (open_from inside i j) es) (insts.fields_none m es) ∙ joined_none (open_from inside i j es)

  rest_next : (f : book.Field) (fs : List book.Field) (inside : Bool) (i j : ℕ) (es : List Entry)
      → rest_from (f ∷ fs) inside i j es ≡ followed_by (field_found m f es) (rest_from fs inside i j) es
  rest_next f fs inside i j es =
      ap (λ x. followed_by x (open_from inside i j) es) (insts.fields_next m f fs es) ∙ followed_twice (field_found m f es) (fields_found m fs) (open_from inside i j) es

  -- ---- where there is no entry
  rest_end : (fs : List book.Field) (inside : Bool) (i j : ℕ) → rest_from fs inside i j [] ≡ None
  unfolding stops closing word one term mapped tagged
  rest_end [] inside i j = rest_none inside i j [] ∙ go inside
    where
      go : (inside : Bool) → open_from inside i j [] ≡ None
      go true = ap (λ f. followed_by f (blocks_from j) []) (until_end (forbidden_inst barred) other_term (leb 90) (inst m) (term m) i [] refl)
      go false = until_end (forbidden_block barred) never is_closing (basic_block m) closing j [] refl
  rest_end (f ∷ fs) inside i j = rest_next f fs inside i j [] ∙ ap (λ r. followed_by (found_of (other_field f) r) (rest_from fs inside i j) []) (insts.no_field m f)

  module _ (e : Entry) (es : List Entry) where
    -- ---- an instruction or a terminator
    body_item : leb 90 e.kind ≡ false → (i j : ℕ) (x : code.Option Found) → found_of other_inst (inst m (e ∷ es)) ≡ x
        → body_from (suc i) j (e ∷ es) ≡ followed_by (joined 0 (call_barred barred m (e ∷ es)) x) (body_from i j) (e ∷ es)
    unfolding stops
    body_item t i j x h =
        ap (λ f. followed_by f (blocks_from j) (e ∷ es)) (until_item (forbidden_inst barred) other_term (leb 90) (inst m) (term m) i (e ∷ es) t)
        ∙ followed_twice (found_of (forbidden_inst barred) (inst m (e ∷ es))) (body_only i) (blocks_from j) (e ∷ es)
        ∙ ap (λ f. followed_by f (body_from i j) (e ∷ es)) (call_also barred m (e ∷ es) ∙ ap (joined 0 (call_barred barred m (e ∷ es))) h)

    body_last : leb 90 e.kind ≡ true → (i j : ℕ) (x : code.Option Found) → found_of other_term (term m (e ∷ es)) ≡ x → body_from i j (e ∷ es) ≡ followed_by x (blocks_from j) (e ∷ es)
    unfolding stops
    body_last t i j x h = ap (λ f. followed_by f (blocks_from j) (e ∷ es)) (until_end (forbidden_inst barred) other_term (leb 90) (inst m) (term m) i (e ∷ es) t ∙ h)

    -- only kind 76 is a call
    is_call : e.kind ≡ 76 → call_barred barred m (e ∷ es) ≡ behind_call barred m es
    unfolding call_barred
    is_call k = rw (eq-eqb e.kind 76 k)

    not_call : (e.kind ≡ 76 → ⊥) → call_barred barred m (e ∷ es) ≡ false
    unfolding call_barred
    not_call d = rw (ne_eqb e.kind 76 d)

    body_known : (fs : List book.Field) → fields_behind m e.kind e.word ≡ some fs → (i j : ℕ)
        → body_from (suc i) j (e ∷ es) ≡ joined 1 (call_barred barred m (e ∷ es)) (rest_from fs (ltb e.kind 90) i j es)
    body_known fs h i j = go (leb 90 e.kind) refl
      where
        go : (b : Bool) → leb 90 e.kind ≡ b → body_from (suc i) j (e ∷ es) ≡ joined 1 (call_barred barred m (e ∷ es)) (rest_from fs (ltb e.kind 90) i j es)
        go true t =
            rw (le-ltb e.kind 90 (leb-true 90 e.kind t), not_call (λ y. omega (arith, leb-true 90 e.kind t)))
            (body_last t (suc i) j _ (insts.term_known m e es t fs h) ∙ followed_joined 1 false (fields_found m fs es) (blocks_from j) (e ∷ es))
        go false t =
            rw (lt-ltb e.kind 90 (leb-false 90 e.kind t))
            (body_item t i j _ (insts.inst_known m e es t fs h)
            ∙ ap (λ f. followed_by f (body_from i j) (e ∷ es)) (joined_joined 0 1 (call_barred barred m (e ∷ es)) false (fields_found m fs es)
            ∙ ap (λ b. joined 1 b (fields_found m fs es)) (or-false (call_barred barred m (e ∷ es))))
            ∙ followed_joined 1 (call_barred barred m (e ∷ es)) (fields_found m fs es) (body_from i j) (e ∷ es))

    body_unknown : fields_behind m e.kind e.word ≡ none → (i j : ℕ) → body_from (suc i) j (e ∷ es) ≡ None
    body_unknown h i j = go (leb 90 e.kind) refl
      where
        go : (b : Bool) → leb 90 e.kind ≡ b → body_from (suc i) j (e ∷ es) ≡ None
        go true t = body_last t (suc i) j None (insts.term_unknown m e es t h)
        go false t = body_item t i j None (insts.inst_unknown m e es t h)

    -- ---- a block's head, or the end of the list
    block_as : found_of (forbidden_block barred) (basic_block m (e ∷ es)) ≡ followed_by (found_of never (word 7 (name m) (e ∷ es))) (λ xs. found_of (forbidden_body barred) (body m xs)) (e ∷ es)
    unfolding basic_block
    block_as =
        mapped_found (forbidden_block barred) _ (both (word 7 (name m)) (body m)) (e ∷ es)
        ∙ both_found (word 7 (name m)) (body m) never (forbidden_body barred) (e ∷ es)

    block_item : (e.kind ≡ 0 → ⊥) → (j : ℕ) (x : code.Option Found) → found_of never (word 7 (name m) (e ∷ es)) ≡ x
        → blocks_from (suc j) (e ∷ es) ≡ followed_by (followed_by x (λ xs. found_of (forbidden_body barred) (body m xs)) (e ∷ es)) (blocks_from j) (e ∷ es)
    unfolding stops
    block_item d j x h =
        until_item (forbidden_block barred) never is_closing (basic_block m) closing j (e ∷ es) (ne_eqb e.kind 0 d)
        ∙ ap (λ f. followed_by f (blocks_from j) (e ∷ es)) (block_as ∙ ap (λ f. followed_by f (λ xs. found_of (forbidden_body barred) (body m xs)) (e ∷ es)) h)

    head_of : no_head m e ≡ false → (e.kind ≡ 7) × (e.word < m)
    head_of h = go (eqb e.kind 7) refl h
      where
        go : (b : Bool) → eqb e.kind 7 ≡ b → (not b || leb m e.word) ≡ false → (e.kind ≡ 7) × (e.word < m)
        go true k h = (eqb-true e.kind 7 k, leb-false m e.word h)
        go false k h = absurd (let z : ◌≡◌ {A = ℕ} 0 1 = cc in omega arith)

    list_head : no_head m e ≡ false → (j : ℕ) → blocks_from (suc j) (e ∷ es) ≡ joined 1 false (body_from (length es) j es)
    unfolding word one body
    list_head h j =
        let q = head_of h in
        block_item (λ z. omega arith) j (Some (found 1 false)) (rw (eq-eqb e.kind 7 q.0, lt-ltb e.word m q.1))
        ∙ followed_joined 1 false (body_only (length es) es) (blocks_from j) (e ∷ es)

    list_closed : closes e ≡ true → (j : ℕ) → blocks_from (suc j) (e ∷ es) ≡ Some (found 1 false)
    unfolding stops word one closing
    list_closed h j = go (eqb e.kind 0) refl (eqb e.word 0) refl h
      where
        go : (a : Bool) → eqb e.kind 0 ≡ a → (b : Bool) → eqb e.word 0 ≡ b → (a && b) ≡ true → blocks_from (suc j) (e ∷ es) ≡ Some (found 1 false)
        go true k true w h = until_end (forbidden_block barred) never is_closing (basic_block m) closing (suc j) (e ∷ es) k ∙ rw (k, w)
        go true k false w h = absurd (let z : ◌≡◌ {A = ℕ} 0 1 = cc in omega arith)
        go false k b w h = absurd (let z : ◌≡◌ {A = ℕ} 0 1 = cc in omega arith)

    list_bad : closes e ≡ false → no_head m e ≡ true → (j : ℕ) → blocks_from (suc j) (e ∷ es) ≡ None
    unfolding stops word one closing
    list_bad h d j = go (eqb e.kind 0) refl h
      where
        unheaded : (b : Bool) → eqb e.kind 7 ≡ b → (not b || leb m e.word) ≡ true → found_of never (word 7 (name m) (e ∷ es)) ≡ None
        unheaded true k d = rw (k, le-ltb e.word m (leb-true m e.word d))
        unheaded false k d = rw k

        go : (a : Bool) → eqb e.kind 0 ≡ a → (a && eqb e.word 0) ≡ false → blocks_from (suc j) (e ∷ es) ≡ None
        go true k h = until_end (forbidden_block barred) never is_closing (basic_block m) closing (suc j) (e ∷ es) k ∙ rw (k, h)
        go false k h = block_item (eqb-false e.kind 0 k) j None (unheaded (eqb e.kind 7) refl d)

-- ---- the pass, on slices: at the place a, with the fields that are wanted, inside a block or not, and what was seen
module _ (barred : ℕ → Bool) (m : ℕ) (ks ws : List ℕ) where
  abbrev whole : code.Option Found
  whole = found_of (any (forbidden_block barred)) (many (basic_block m) (entries ks ws))

  pub record Scan (a : ℕ) (need : List Field) (inside seen : Bool) : Type 0 where
    pub there : a ≤ length (entries ks ws)
    pub insts : ℕ
    pub blocks : ℕ
    pub insts_room : length (entries ks ws) ≤ a + insts
    pub blocks_room : length (entries ks ws) ≤ a + blocks
    pub named : (1 ≤ m) ⊎ ((need ≡ []) × (inside ≡ false))
    pub goes : whole ≡ joined a seen (rest_from barred m (map field_by need) inside insts blocks (drop a (entries ks ws)))

  pub scan_start : Scan 0 [] false false
  scan_start =
      let n = length (entries ks ws) in
      record {
        there = omega arith;
        insts = n;
        blocks = n;
        insts_room = omega arith;
        blocks_room = omega arith;
        named = inr (refl, refl);
        goes = many_found (forbidden_block barred) (basic_block m) (entries ks ws) ∙ sym (joined_none _ ∙ rest_none barred m false n n (entries ks ws));
      }

module _ {barred : ℕ → Bool} {m : ℕ} {ks ws : List ℕ} {a : ℕ} {need : List Field} {inside seen : Bool} (l : Scan barred m ks ws a need inside seen) where
  -- the entries from here on, and what is to come of them
  abbrev rest : List Entry
  rest = drop a (entries ks ws)

  abbrev rest_with : List book.Field → List Entry → code.Option Found
  rest_with fs es = rest_from barred m fs inside l.insts l.blocks es

  abbrev to_come : code.Option Found
  to_come = rest_with (map field_by need) rest

  to_bad : to_come ≡ None → None ≡ whole barred m ks ws
  to_bad h = sym (l.goes ∙ ap (joined a seen) h)

  to_next : (n : ℕ) (b : Bool) (f : code.Option Found) → to_come ≡ joined n b f → whole barred m ks ws ≡ joined (a + n) (seen || b) f
  to_next n b f h = l.goes ∙ ap (joined a seen) h ∙ joined_joined a n seen b f

  -- the entries end here
  pub scan_over : length (entries ks ws) ≤ a → None ≡ whole barred m ks ws
  scan_over h = to_bad (ap (rest_with (map field_by need)) (drop_of_length-le (entries ks ws) h) ∙ rest_end barred m (map field_by need) inside l.insts l.blocks)

  -- ---- a field is wanted
  module _ (f : Field) (others : List Field) (z : need ≡ f ∷ others) where
    abbrev front : List Entry → code.Option Found
    front es = field_found m (field_by f) es

    pub scan_named : 1 ≤ m
    scan_named = ⊎_elim (λ h. h) (λ h. absurd (let q : f ∷ others ≡ [] = sym z ∙ h.0 in let p : ◌≡◌ {A = ℕ} 0 1 = cc in omega arith)) l.named

    -- it, then the others
    wanted : to_come ≡ followed_by (front rest) (rest_with (map field_by others)) rest
    wanted = ap (λ fs. rest_with (map field_by fs) rest) z ∙ rest_next barred m (field_by f) (map field_by others) inside l.insts l.blocks rest

    -- as the code finds it: read from here on, or an entry by itself
    pub scan_lent : (x : code.Option Found) → x ≡ front (lent_from ks ws a) → front rest ≡ x
    scan_lent x e = sym (e ∙ ap front (entries_part a ks ws))

    pub scan_alone : a < length (entries ks ws) → Alone m (get_or ks a 0) (get_or ws a 0) (digit_of f) → front rest ≡ Some (found 1 (eqb (get_or ks a 0) 37))
    scan_alone t h =
        ap front (entry_at ks ws a t) ∙ ap (λ x. field_found m x (entry (get_or ks a 0) (get_or ws a 0) ∷ drop (a + 1) (entries ks ws))) (sym (insts.by_digit f))
        ∙ h (drop (a + 1) (entries ks ws))

    pub scan_no_field : front rest ≡ None → None ≡ whole barred m ks ws
    scan_no_field h = to_bad (wanted ∙ ap (λ r. followed_by r (rest_with (map field_by others)) rest) h)

    module _ (g : Found) (h : front rest ≡ Some g) where
      pub scan_takes : 1 ≤ g.entries
      scan_takes = insts.field_takes m (field_by f) rest g h

      pub scan_there : a + g.entries ≤ length (entries ks ws)
      scan_there = omega (arith, found_fits (other_field (field_by f)) (agrees_field m (field_by f)) rest g h, length-drop a (entries ks ws), l.there)

      pub scan_field : Scan barred m ks ws (a + g.entries) others inside (seen || g.barred)
      scan_field =
          let later = rest_with (map field_by others) in
          record {
            there = scan_there;
            insts = l.insts;
            blocks = l.blocks;
            insts_room = omega (arith, l.insts_room);
            blocks_room = omega (arith, l.blocks_room);
            named = inl scan_named;
            goes = to_next g.entries g.barred (later (drop g.entries rest)) (wanted ∙ ap (λ x. followed_by x later rest) h)
                ∙ ap (λ es. joined (a + g.entries) (seen || g.barred) (later es)) (drop-drop g.entries a (entries ks ws));
          }

  -- ---- no field is wanted, and there is an entry
  module _ (z : need ≡ []) (t : a < length (entries ks ws)) where
    abbrev here : Entry
    here = entry (get_or ks a 0) (get_or ws a 0)

    abbrev next : List Entry
    next = drop (a + 1) (entries ks ws)

    open_here_lem : to_come ≡ open_from barred m inside l.insts l.blocks (here ∷ next)
    open_here_lem = ap (λ fs. rest_with (map field_by fs) rest) z ∙ rest_none barred m inside l.insts l.blocks rest ∙ ap (open_from barred m inside l.insts l.blocks) (entry_at ks ws a t)

    -- a number that there is room for has one before it
    record Less (n : ℕ) : Type 0 where
      one : ℕ
      is : n ≡ suc one
      room : length (entries ks ws) ≤ (a + 1) + one

    less : (n : ℕ) → length (entries ks ws) ≤ a + n → Less n
    less zero h = absurd (omega arith)
    less (suc n) h = record { one = n; is = refl; room = omega arith }

    -- ---- inside a block: an instruction or its terminator
    module _ (o : inside ≡ true) where
      insts_left : Less l.insts
      insts_left = less l.insts l.insts_room

      open_body : to_come ≡ body_from barred m (suc insts_left.one) l.blocks (here ∷ next)
      open_body = open_here_lem ∙ ap (λ b. open_from barred m b l.insts l.blocks (here ∷ next)) o ∙ ap (λ k. body_from barred m k l.blocks (here ∷ next)) insts_left.is

      pub scan_unknown : none ≡ fields_behind m (get_or ks a 0) (get_or ws a 0) → None ≡ whole barred m ks ws
      scan_unknown h = to_bad (open_body ∙ body_unknown barred m here next (sym h) insts_left.one l.blocks)

      -- what was seen with it
      pub scan_call : get_or ks a 0 ≡ 76 → (y : Bool) → y ≡ behind_call barred m (lent_from ks ws (a + 1)) → (seen || y) ≡ (seen || call_barred barred m (here ∷ next))
      scan_call k y h = ap (λ x. seen || x) (h ∙ ap (behind_call barred m) (entries_part (a + 1) ks ws) ∙ sym (is_call barred m here next k))

      pub scan_no_call : (get_or ks a 0 ≡ 76 → ⊥) → seen ≡ (seen || call_barred barred m (here ∷ next))
      scan_no_call d = sym (ap (λ x. seen || x) (not_call barred m here next d) ∙ or-false seen)

      pub scan_known : (c : List Field) → some (map field_by c) ≡ fields_behind m (get_or ks a 0) (get_or ws a 0) → (s : Bool) → s ≡ (seen || call_barred barred m (here ∷ next))
          → Scan barred m ks ws (a + 1) c (ltb (get_or ks a 0) 90) s
      scan_known c h s es =
          record {
            there = omega arith;
            insts = insts_left.one;
            blocks = l.blocks;
            insts_room = insts_left.room;
            blocks_room = omega (arith, l.blocks_room);
            named = ⊎_elim inl (λ y. absurd (let q : true ≡ false = sym o ∙ y.1 in let p : ◌≡◌ {A = ℕ} 0 1 = cc in omega arith)) l.named;
            goes = rw es (to_next 1 (call_barred barred m (here ∷ next)) (rest_from barred m (map field_by c) (ltb (get_or ks a 0) 90) insts_left.one l.blocks next)
                (open_body ∙ body_known barred m here next (map field_by c) (sym h) insts_left.one l.blocks));
          }

    -- ---- between blocks: a block's head, or the end of the list
    module _ (o : inside ≡ false) where
      blocks_left : Less l.blocks
      blocks_left = less l.blocks l.blocks_room

      open_list : to_come ≡ blocks_from barred m (suc blocks_left.one) (here ∷ next)
      open_list = open_here_lem ∙ ap (λ b. open_from barred m b l.insts l.blocks (here ∷ next)) o ∙ ap (λ k. blocks_from barred m k (here ∷ next)) blocks_left.is

      pub scan_head : no_head m here ≡ false → Scan barred m ks ws (a + 1) need true seen
      scan_head h =
          let q = head_of barred m here next h in
          let opened = body_from barred m (length next) blocks_left.one next in
          record {
            there = omega arith;
            insts = length next;
            blocks = blocks_left.one;
            insts_room = omega (arith, length-drop (a + 1) (entries ks ws));
            blocks_room = blocks_left.room;
            named = inl (omega arith);
            goes = to_next 1 false opened (open_list ∙ list_head barred m here next h blocks_left.one) ∙ ap (λ b. joined (a + 1) b opened) (or-false seen)
                ∙ ap (joined (a + 1) seen) (sym (ap (λ fs. rest_from barred m (map field_by fs) true (length next) blocks_left.one next) z ∙ rest_none barred m true (length next) blocks_left.one next));
          }

      pub scan_closed : closes here ≡ true → Some (found (a + 1) seen) ≡ whole barred m ks ws
      scan_closed h = sym (l.goes ∙ ap (joined a seen) (open_list ∙ list_closed barred m here next h blocks_left.one) ∙ ap (λ b. Some (found (a + 1) b)) (or-false seen))

      pub scan_bad : closes here ≡ false → no_head m here ≡ true → None ≡ whole barred m ks ws
      scan_bad h d = to_bad (open_list ∙ list_bad barred m here next h d blocks_left.one)
