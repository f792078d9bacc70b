-- Word 2 of each name, filled from the function's list of blocks: "list of 7 blocks (name)", "later duplicates win". Inside a block no entry
-- has kind 7, so the entries of blocks are found by their kind.
use Rattle.std.specs.Prelude.{ℕ, ◌+◌, ◌-◌, ◌<◌, ◌≤◌, ◌^◌, ◌≡◌, Bool, set}
use Rattle.std.proofs.Math.Path.{refl, sym, ap, subst}
use Rattle.std.proofs.Common.{◌∙◌, inl, inr, length-set, get_or-set_same, get_or-set_other}
use Rattle.std.proofs.Math.Bool.{true, false}
use Rattle.std.proofs.Math.Option.{some}
use mathlib.Core.List.{List, [], ◌∷◌, ◌++◌, append_assoc}
use native.Mathlib.Omega.{arith}
use Rattle.std.proofs.Math.Dec.{eqb}
use Rattle.std.proofs.Math.ListN.{length, get_or, drop, length-append, length-drop}
use borrow.Author.Tests.{eqb-true, eqb-false}
use Rattle.book.specs.Entry.{Entry, entry, entries}
use Rattle.book.specs.Ast.{BasicBlock, Function}
use Rattle.book.specs.Map.{Map, lookup}
use Rattle.book.specs.Rule.{pick}
use Rattle.book.specs.Encode.{ending, closed, enc_inst, enc_term, enc_basic_block}
use Rattle.book.specs.Limits.{Each, BlockLimits}
use Rattle.book.specs.Work.{name_words, param_at, block_at, body_at, measured_at}
use Rattle.book_types.specs.Laws.{within_kinds, within_words, entries_part}
use Rattle.lowering.specs.Context.{param_map, block_map}
use Rattle.layout_memo.specs.Calls.{lent}
use Rattle.layout_memo.specs.Work.{Ready, table_at, table_other}
use Rattle.gen_values.specs.Maps.{numbered, BlockAt, BlockWord}
use Rattle.gen_values.specs.Fields.{entry_at}
use Rattle.book.specs.Heads.{Inside, inside_body}
use Rattle.gen_blocks.specs.Words.{WordsKept, words_set, ready_kept}
use Rattle.gen_blocks.specs.Function.{function_in, behind_in, ending_append, Others, FunctionAt, Part, part_within, part_from_lem, cut, cut_is, cut_part}
use Rattle.gen_blocks.specs.Params.{ParamsAsked, ParamsPlaced}
use Rattle.gen_blocks.specs.declared.Placed.{Placed}

-- what `place_blocks` asks and leaves: the list of these blocks stands at the front, behind it `rest`, and at the place `at` of the book
pub record BlocksAsked (m : ℕ) (blocks : List BasicBlock) (rest book : List Entry) (at : ℕ) (es : List Entry) (work : List ℕ) : Type 0 where
  pub here : es ≡ closed enc_basic_block blocks ++ rest
  pub limits : Each (BlockLimits m) blocks
  pub next : Others rest
  pub tail : List Entry
  pub part : Part book at es tail
  pub room : name_words m ≤ length work
  pub blank : (x : ℕ) → x < m → get_or work (block_at x) 0 ≡ 0
  pub few : length book ≤ 2 ^ 20

pub record BlocksPlaced (m : ℕ) (blocks : List BasicBlock) (rest book es : List Entry) (work work' : List ℕ) (end : ℕ) : Type 0 where
  pub words : (x : ℕ) → x < m → BlockWord m book (lookup x (block_map blocks [])) (get_or work' (block_at x) 0)
  pub kept : WordsKept m 2 work work'
  pub after : drop end es ≡ rest
  pub there : end ≤ length es

-- at the place a: entries inside a block, then blocks, then entries inside, then what stands behind the function
pub record BlocksAt (m : ℕ) (blocks : List BasicBlock) (rest book : List Entry) (at : ℕ) (es : List Entry) (work : List ℕ) (a : ℕ) : Type 0 where
  pub pre : List Entry
  pub left : List BasicBlock
  pub end : List Entry
  pub done : Map BasicBlock
  pub here : drop a es ≡ pre ++ ending enc_basic_block (end ++ rest) left
  pub inside : Each Inside pre
  pub ends : Each Inside end
  pub limits : Each (BlockLimits m) left
  pub goes : block_map left done ≡ block_map blocks []
  pub words : (x : ℕ) → x < m → BlockWord m book (lookup x done) (get_or work (block_at x) 0)
  pub next : Others rest
  pub tail : List Entry
  pub part : Part book at es tail
  pub there : a ≤ length es
  pub room : name_words m ≤ length work
  pub few : length book ≤ 2 ^ 20

blocks_long : (bs : List BasicBlock) (end : List Entry) → length end ≤ length (ending enc_basic_block end bs)
unfolding ending
blocks_long [] end = omega arith
blocks_long (b ∷ bs) end = omega (arith, blocks_long bs end, length-append (enc_basic_block b) (ending enc_basic_block end bs))

module _ (m : ℕ) (blocks : List BasicBlock) (rest book : List Entry) (at : ℕ) (es : List Entry) (work : List ℕ) where
  pub blocks_start : BlocksAsked m blocks rest book at es work → BlocksAt m blocks rest book at es work 0
  unfolding lookup
  blocks_start k =
      record {
        pre = [];
        left = blocks;
        end = entry 0 0 ∷ [];
        done = [];
        here = k.here ∙ ending_append enc_basic_block (entry 0 0 ∷ []) rest blocks;
        inside = tt;
        ends = ((λ p q. omega arith), tt);
        limits = k.limits;
        goes = refl;
        words = λ x l. record { absent = λ _. refl; present = λ n. absurd (n (k.blank x l)) };
        next = k.next;
        tail = k.tail;
        part = k.part;
        there = omega arith;
        room = k.room;
        few = k.few;
      }

-- the word of a name after a block is noted
module _ (m : ℕ) (book : List Entry) (work : List ℕ) (done : Map BasicBlock) (words : (x : ℕ) → x < m → BlockWord m book (lookup x done) (get_or work (block_at x) 0))
    (room : name_words m ≤ length work) (y a : ℕ) (l : y < m) (b : BasicBlock) (here : BlockAt m book b (a + 1)) where
  stored : (x : ℕ) → x < m → BlockWord m book (lookup x ((y, b) ∷ done)) (get_or (set work (block_at y) (a + 2)) (block_at x) 0)
  unfolding lookup
  stored x lx = go (eqb x y) refl
    where
      go : (c : Bool) → eqb x y ≡ c → BlockWord m book (pick c (some b) (lookup x done)) (get_or (set work (block_at y) (a + 2)) (block_at x) 0)
      go true e =
          let s : block_at y < length work = omega arith in
          let w : get_or (set work (block_at y) (a + 2)) (block_at x) 0 ≡ a + 2 = rw (eqb-true x y e) (get_or-set_same work (block_at y) (a + 2) 0 s) in
          let p : a + 2 - 1 ≡ a + 1 = omega arith in
          rw w (record { absent = λ z. absurd (omega arith); present = λ _. (b, refl, rw p here) })
      go false e =
          let n = eqb-false x y e in
          rw (get_or-set_other work (block_at y) (block_at x) (a + 2) 0 (λ z. n (omega arith))) (words x lx)

module _ (m : ℕ) (ks ws : List ℕ) (blocks : List BasicBlock) (rest book : List Entry) (at : ℕ) (work : List ℕ) (a : ℕ)
    (p : BlocksAt m blocks rest book at (entries ks ws) work a) where
  abbrev es : List Entry
  es = entries ks ws

  -- nothing is left before what stands behind the function
  pub blocks_done : (work₀ : List ℕ) → p.left ≡ [] → drop a es ≡ rest → WordsKept m 2 work₀ work → BlocksPlaced m blocks rest book es work₀ work a
  unfolding block_map
  blocks_done work₀ e h kept =
      let g : p.done ≡ block_map blocks [] = sym (ap (λ (x : List BasicBlock). block_map x p.done) e) ∙ p.goes in
      record {
        words = λ x l. subst (λ (o : Map BasicBlock). BlockWord m book (lookup x o) (get_or work (block_at x) 0)) g (p.words x l);
        kept = kept;
        after = h;
        there = p.there;
      }

  some_left : (b : BasicBlock) (bs : List BasicBlock) (end : List Entry) → length end < length (ending enc_basic_block end (b ∷ bs))
  unfolding ending enc_basic_block
  some_left b bs end =
      omega (arith, blocks_long bs end, length-append (ending enc_inst (enc_term b.term) b.insts) (ending enc_basic_block end bs))

  -- at the end
  pub blocks_last : length es ≤ a → (p.left ≡ []) × (drop a es ≡ rest)
  unfolding ending
  blocks_last l = at_left p.left refl p.end refl p.pre refl p.here
    where
      short : length (drop a es) ≤ length rest
      short = omega (arith, length-drop a es)

      at_left : (bs : List BasicBlock) → p.left ≡ bs → (end : List Entry) → p.end ≡ end → (pre : List Entry) → p.pre ≡ pre
          → drop a es ≡ pre ++ ending enc_basic_block (end ++ rest) bs → (bs ≡ []) × (drop a es ≡ rest)
      at_left (b ∷ bs) e end i pre j h =
          absurd (omega (arith, short, ap length h, length-append pre (ending enc_basic_block (end ++ rest) (b ∷ bs)), some_left b bs (end ++ rest), length-append end rest))
      at_left [] e (x ∷ end) i pre j h = absurd (omega (arith, short, ap length h, length-append pre ((x ∷ end) ++ rest), length-append end rest))
      at_left [] e [] i (x ∷ pre) j h = absurd (omega (arith, short, ap length h, length-append pre rest))
      at_left [] e [] i [] j h = (refl, h)

  module _ (there : a < length es) where
    pub in_kinds : a + 1 ≤ length ks
    in_kinds = within_kinds (a + 1) ks ws (omega (arith, there))

    pub in_words : a + 1 ≤ length ws
    in_words = within_words (a + 1) ks ws (omega (arith, there))

    -- the place in the book
    pub place_few : at + a + 2 ≤ 1048578
    place_few = omega (arith, part_within p.part, p.few)

    -- what stands behind the function has kind 5, if it stands here
    behind_five : drop a es ≡ rest → get_or ks a 0 ≡ 5
    behind_five h = go p.next
      where
        go : Others rest → get_or ks a 0 ≡ 5
        go (inl e) = absurd (omega (arith, ap length h, ap length e, length-drop a es))
        go (inr f) = (entry_at ks ws a _ _ (h ∙ f.1.1)).0

    -- an entry that is inside has another kind
    outside : (k : ℕ) → get_or ks a 0 ≡ k → 1 ≤ k → k ≤ 9 → (e : Entry) (tail : List Entry) → drop a es ≡ e ∷ tail → Inside e → ⊥
    outside k ek one nine e tail h i = let q : e.kind ≡ k = sym (entry_at ks ws a e tail h).0 ∙ ek in i (omega arith) (omega arith)

    -- the next function stands here
    pub blocks_five : get_or ks a 0 ≡ 5 → (p.left ≡ []) × (drop a es ≡ rest)
    unfolding ending enc_basic_block
    blocks_five k5 = at_pre p.pre p.here p.inside
      where
        at_end_lem : (end : List Entry) → p.left ≡ [] → drop a es ≡ end ++ rest → Each Inside end → (p.left ≡ []) × (drop a es ≡ rest)
        at_end_lem [] e h i = (e, h)
        at_end_lem (x ∷ end) e h i = absurd (outside 5 k5 (omega arith) (omega arith) x _ h i.0)

        at_left : (bs : List BasicBlock) → p.left ≡ bs → drop a es ≡ ending enc_basic_block (p.end ++ rest) bs → (p.left ≡ []) × (drop a es ≡ rest)
        at_left [] e h = at_end_lem p.end e h p.ends
        at_left (b ∷ bs) e h = absurd (let z : 7 ≡ 5 = sym (entry_at ks ws a _ _ h).0 ∙ k5 in omega arith)

        at_pre : (pre : List Entry) → drop a es ≡ pre ++ ending enc_basic_block (p.end ++ rest) p.left → Each Inside pre → (p.left ≡ []) × (drop a es ≡ rest)
        at_pre [] h i = at_left p.left refl h
        at_pre (x ∷ pre) h i = absurd (outside 5 k5 (omega arith) (omega arith) x _ h i.0)

    module _ (n5 : get_or ks a 0 ≡ 5 → ⊥) where
      -- an entry that is no block's
      pub blocks_skip : (get_or ks a 0 ≡ 7 → ⊥) → BlocksAt m blocks rest book at es work (a + 1)
      unfolding ending enc_basic_block block_map
      blocks_skip n = at_pre p.pre refl p.here p.inside
        where
          moved : (pre end : List Entry) (left : List BasicBlock) → left ≡ p.left → drop (a + 1) es ≡ pre ++ ending enc_basic_block (end ++ rest) left → Each Inside pre → Each Inside end
              → BlocksAt m blocks rest book at es work (a + 1)
          moved pre end left e h i j =
              record {
                pre = pre;
                left = left;
                end = end;
                done = p.done;
                here = h;
                inside = i;
                ends = j;
                limits = subst (Each (BlockLimits m)) (sym e) p.limits;
                goes = ap (λ (x : List BasicBlock). block_map x p.done) e ∙ p.goes;
                words = p.words;
                next = p.next;
                tail = p.tail;
                part = p.part;
                there = omega arith;
                room = p.room;
                few = p.few;
              }

          at_end_lem : (end : List Entry) → p.left ≡ [] → drop a es ≡ end ++ rest → Each Inside end → BlocksAt m blocks rest book at es work (a + 1)
          at_end_lem [] e h i = absurd (n5 (behind_five h))
          at_end_lem (x ∷ end) e h i =
              let q = entry_at ks ws a _ _ h in
              moved [] end [] (sym e) q.4 tt i.1

          at_left : (bs : List BasicBlock) → p.left ≡ bs → drop a es ≡ ending enc_basic_block (p.end ++ rest) bs → BlocksAt m blocks rest book at es work (a + 1)
          at_left [] e h = at_end_lem p.end e h p.ends
          at_left (b ∷ bs) e h = absurd (n (entry_at ks ws a _ _ h).0)

          at_pre : (pre : List Entry) → p.pre ≡ pre → drop a es ≡ pre ++ ending enc_basic_block (p.end ++ rest) p.left → Each Inside pre → BlocksAt m blocks rest book at es work (a + 1)
          at_pre [] e h i = at_left p.left refl h
          at_pre (x ∷ pre) e h i = moved pre p.end p.left refl (entry_at ks ws a _ _ h).4 i.1 p.ends

      -- a block
      module _ (k7 : get_or ks a 0 ≡ 7) where
        pub record Here : Type 0 where
          pub block : BasicBlock
          pub others : List BasicBlock
          pub is : p.left ≡ block ∷ others
          pub word : get_or ws a 0 ≡ block.label
          pub body : drop (a + 1) es ≡ ending enc_inst (enc_term block.term) block.insts ++ ending enc_basic_block (p.end ++ rest) others

        here : Here
        unfolding ending enc_basic_block
        here = at_pre p.pre p.here p.inside
          where
            at_end_lem : (end : List Entry) → drop a es ≡ end ++ rest → Each Inside end → Here
            at_end_lem [] h i = absurd (n5 (behind_five h))
            at_end_lem (x ∷ end) h i = absurd (outside 7 k7 (omega arith) (omega arith) x _ h i.0)

            at_left : (bs : List BasicBlock) → p.left ≡ bs → drop a es ≡ ending enc_basic_block (p.end ++ rest) bs → Here
            at_left [] e h = at_end_lem p.end h p.ends
            at_left (b ∷ bs) e h = let q = entry_at ks ws a _ _ h in record { block = b; others = bs; is = e; word = q.1; body = q.4 }

            at_pre : (pre : List Entry) → drop a es ≡ pre ++ ending enc_basic_block (p.end ++ rest) p.left → Each Inside pre → Here
            at_pre [] h i = at_left p.left refl h
            at_pre (x ∷ pre) h i = absurd (outside 7 k7 (omega arith) (omega arith) x _ h i.0)

        limits_here : Each (BlockLimits m) (here.block ∷ here.others)
        limits_here = subst (Each (BlockLimits m)) here.is p.limits

        pub label_below : get_or ws a 0 < m
        label_below = rw here.word limits_here.0.0

        block_at_lem : BlockAt m book here.block (at + a + 1)
        block_at_lem =
            let q = part_from_lem p.part (a + 1) (omega arith) in
            let e : at + (a + 1) ≡ at + a + 1 = omega arith in
            let body = ending enc_inst (enc_term here.block.term) here.block.insts in
            let others = ending enc_basic_block (p.end ++ rest) here.others in
            subst (BlockAt m book here.block) e
            (record {
              rest = others ++ p.tail;
              here = q.here ∙ ap (λ (x : List Entry). x ++ p.tail) here.body ∙ append_assoc body others p.tail;
              keeps = limits_here.0.1;
              there = q.there;
            })

        goes_here : block_map here.others ((get_or ws a 0, here.block) ∷ p.done) ≡ block_map blocks []
        unfolding block_map
        goes_here =
            ap (λ (y : ℕ). block_map here.others ((y, here.block) ∷ p.done)) here.word ∙ sym (ap (λ (x : List BasicBlock). block_map x p.done) here.is) ∙ p.goes

        pub blocks_next : BlocksAt m blocks rest book at es (set work (block_at (get_or ws a 0)) (at + a + 2)) (a + 1)
        blocks_next =
            record {
              pre = ending enc_inst (enc_term here.block.term) here.block.insts;
              left = here.others;
              end = p.end;
              done = (get_or ws a 0, here.block) ∷ p.done;
              here = here.body;
              inside = inside_body here.block.insts here.block.term;
              ends = p.ends;
              limits = limits_here.1;
              goes = goes_here;
              words = stored m book work p.done p.words p.room (get_or ws a 0) (at + a) label_below here.block block_at_lem;
              next = p.next;
              tail = p.tail;
              part = p.part;
              there = omega arith;
              room = omega (arith, p.room, length-set work (block_at (get_or ws a 0)) (at + a + 2));
              few = p.few;
            }

        pub blocks_kept : WordsKept m 2 work (set work (block_at (get_or ws a 0)) (at + a + 2))
        blocks_kept = words_set (get_or ws a 0) (block_at (get_or ws a 0)) (at + a + 2) label_below refl

-- ---- the function: its entry stands at the place a of the book, words 0 and 2 of names are 0, and `es` are the entries from there up to `last`
pub record FunctionAsked (m : ℕ) (book : List Entry) (last : ℕ) (es : List Entry) (a : ℕ) (work : List ℕ) : Type 0 where
  pub fn : FunctionAt m book last a
  pub part : es ≡ cut fn
  pub room : name_words m ≤ length work
  pub params : (x : ℕ) → x < m → get_or work (param_at x) 0 ≡ 0
  pub blocks : (x : ℕ) → x < m → get_or work (block_at x) 0 ≡ 0

-- the words hold the function's maps, the places are those of its list of blocks and of what stands behind it, and no other word has changed
pub record FunctionPlaced (m : ℕ) (book : List Entry) (a : ℕ) (work work' : List ℕ) (r : Placed) : Type 0 where
  pub params : (x : ℕ) → x < m → get_or work' (param_at x) 0 ≡ numbered (lookup x (param_map 0 (function_in m book a).params []))
  pub blocks : (x : ℕ) → x < m → BlockWord m book (lookup x (block_map (function_in m book a).blocks [])) (get_or work' (block_at x) 0)
  pub first : drop r.blocks book ≡ closed enc_basic_block (function_in m book a).blocks ++ behind_in m book a
  pub after : drop r.end book ≡ behind_in m book a
  pub first_there : r.blocks ≤ length book
  pub there : r.end ≤ length book
  pub long : length work' ≡ length work
  pub same : (i : ℕ) → ((x : ℕ) → x < m → i ≡ param_at x → ⊥) → ((x : ℕ) → x < m → i ≡ block_at x → ⊥) → get_or work' i 0 ≡ get_or work i 0

module _ {m : ℕ} {book : List Entry} {last a : ℕ} {work : List ℕ} (ks ws : List ℕ) (k : FunctionAsked m book last (entries ks ws) a work) where
  abbrev f : Function
  f = function_in m book a

  abbrev others : List Entry
  others = k.fn.others

  in_book : Part book a (entries ks ws) k.fn.end
  in_book = subst (λ (es : List Entry). Part book a es k.fn.end) (sym k.part) (cut_part k.fn)

  pub asked_params : ParamsAsked m f others (entries ks ws) work
  asked_params =
      record {
        here = k.part ∙ cut_is k.fn;
        limits = k.fn.limits;
        room = k.room;
        blank = k.params;
        few = omega (arith, k.fn.few, part_within in_book);
      }

  module _ {work' : List ℕ} {r : ℕ} (p : ParamsPlaced m f others (entries ks ws) work work' r) where
    pub blocks_in : (r ≤ length ks) × (r ≤ length ws)
    blocks_in = (within_kinds r ks ws p.there, within_words r ks ws p.there)

    pub blocks_few : a + r ≤ 1048576
    blocks_few = omega (arith, k.fn.few, part_within in_book, p.there)

    blocks_part : Part book (a + r) (lent ks ws r) k.fn.end
    blocks_part = subst (λ (es : List Entry). Part book (a + r) es k.fn.end) (sym (entries_part r ks ws)) (part_from_lem in_book r p.there)

    pub asked_blocks : BlocksAsked m f.blocks others book (a + r) (lent ks ws r) work'
    asked_blocks =
        record {
          here = entries_part r ks ws ∙ p.blocks;
          limits = k.fn.limits.1.1.1;
          next = k.fn.next;
          tail = k.fn.end;
          part = blocks_part;
          room = omega (arith, k.room, p.kept.long);
          blank = λ x l. p.kept.same (block_at x) (λ y _ e. omega arith) ∙ k.blocks x l;
          few = k.fn.few;
        }

    module _ {work'' : List ℕ} {n : ℕ} (b : BlocksPlaced m f.blocks others book (lent ks ws r) work' work'' n) where
      ends_there : a + r + n ≤ length book
      ends_there = omega (arith, part_within blocks_part, b.there)

      pub end_few : a + r + n ≤ 1048576
      end_few = omega (arith, ends_there, k.fn.few)

      pub function_placed : FunctionPlaced m book a work work'' (record { blocks = a + r; end = a + r + n })
      function_placed =
          let own = closed enc_basic_block f.blocks in
          let end = k.fn.end in
          record {
            params = λ x l. b.kept.same (param_at x) (λ y _ e. omega arith) ∙ p.words x l;
            blocks = b.words;
            first = (part_from_lem in_book r p.there).here ∙ ap (λ (x : List Entry). x ++ end) p.blocks ∙ append_assoc own others end
                ∙ ap (λ (x : List Entry). own ++ x) (sym k.fn.behind);
            after = (part_from_lem blocks_part n b.there).here ∙ ap (λ (x : List Entry). x ++ end) b.after ∙ sym k.fn.behind;
            first_there = omega (arith, part_within in_book, p.there);
            there = ends_there;
            long = b.kept.long ∙ p.kept.long;
            same = λ i f g. b.kept.same i g ∙ p.kept.same i (λ x l e. f x l (omega arith));
          }

-- measuring is not touched
module _ {m : ℕ} {es : List Entry} {a : ℕ} {work work' : List ℕ} {r : Placed} where
  pub function_ready : Ready m es work → FunctionPlaced m es a work work' r → Ready m es work'
  function_ready k p =
      ready_kept k p.long (λ x _. p.same (body_at x) (λ y _ e. omega arith) (λ y _ e. omega arith)) (λ x _. p.same (measured_at x) (λ y _ e. omega arith) (λ y _ e. omega arith))
      (λ i. p.same (table_at m i) (λ y ly e. table_other m i y 0 (omega arith) (λ z. omega arith) ly (omega arith)) (λ y ly. table_other m i y 2 (omega arith) (λ z. omega arith) ly))
