-- The answers for values and for what fields hold.
use Rattle.std.specs.Prelude.{ℕ, ◌^◌, ◌-◌, Bool, true, false, ◌&&◌, ◌||◌, not, eqb, ltb, leb}
use Rattle.std.proofs.Math.Option.{Option, none, some}
use Rattle.numbers.specs.Align.{is_align}
use Rattle.book.specs.Ast as ast
use Rattle.book.specs.Kinds.{ValTag, val_tag}
use Rattle.book.specs.Rule.{when}
use Rattle.book.specs.Fields as book
use Rattle.book.specs.Read.{Reader, word, filtered}
use Rattle.book.specs.Decode.{value, block, index, align, maybe_name}
use Rattle.book.specs.Decode as decode
use Rattle.book.specs.Forbidden.{is_other}
use Rattle.std.specs.Prelude.{Some, None}
use Rattle.std.specs.Prelude as code
use Rattle.book_types.specs.Found.{one_if, never}
use Rattle.book_types.specs.declared.Found.{Found}
use Rattle.book_values.specs.declared.ValueGroup.{ValueGroup}
use Rattle.book_values.specs.declared.ValueGroup.TheVariants as group
use Rattle.book_values.specs.declared.Atom.{Atom}
use Rattle.book_values.specs.declared.Atom.TheVariants as atom
use Rattle.book_values.specs.declared.Item.{Item}
use Rattle.book_values.specs.declared.Item.TheVariants.{«Type», Value, Block, Index, Align, Typed, GepIndex, Incoming, Case, Param}

abbrev pub value_group_of : Option ValTag → ValueGroup
value_group_of none = group.Bad
value_group_of (some ValTag.local) = group.Local
value_group_of (some ValTag.global) = group.Global
value_group_of (some ValTag.int) = group.Int
value_group_of (some (ValTag.zero z)) = group.Zero
value_group_of (some ValTag.other) = group.Other

-- whether the word is one that the value may have
abbrev pub value_ok : ℕ → ℕ → ValueGroup → Bool
value_ok m w group.Local = ltb w m
value_ok m w group.Global = ltb w m
value_ok m w group.Int = true
value_ok m w group.Zero = eqb w 0
value_ok m w group.Other = eqb w 0
value_ok m w group.Bad = false

-- an entry of kind k, its word below b
abbrev pub word_below : ℕ → ℕ → Reader ℕ
word_below k b = word k (λ w. when (ltb w b) w)

-- ---- what may stand in one entry
abbrev pub index_fits : ℕ → ℕ → Bool
index_fits k w = (not (eqb k 32) || ltb w (2 ^ 31)) || leb (2 ^ 64 - 2 ^ 31) w

abbrev pub atom_ok : ℕ → ℕ → ℕ → Atom → Bool
atom_ok m k w atom.Value = value_ok m w (value_group_of (val_tag k))
atom_ok m k w atom.GepValue = value_ok m w (value_group_of (val_tag k)) && index_fits k w
atom_ok m k w atom.Block = eqb k 23 && ltb w m
atom_ok m k w atom.Index = eqb k 22 && ltb w (2 ^ 32)
atom_ok m k w atom.Align = eqb k 22 && is_align w
atom_ok m k w atom.Case = eqb k 32
atom_ok m k w atom.Param = eqb k 6 && leb w m

-- by the entry in front
abbrev pub atom_front : ℕ → Atom → code.Option (ℕ × ℕ) → code.Option Found
atom_front m a None = None
atom_front m a (Some e) = one_if (atom_ok m e.0 e.1 a) (eqb e.0 37)

-- by the definition
abbrev pub AtomMeaning : Atom → Type 0
AtomMeaning atom.Value = ast.Value
AtomMeaning atom.GepValue = ast.Value
AtomMeaning atom.Block = ℕ
AtomMeaning atom.Index = ℕ
AtomMeaning atom.Align = ℕ
AtomMeaning atom.Case = ℕ
AtomMeaning atom.Param = Option ℕ

abbrev pub atom_reader : ℕ → (a : Atom) → Reader (AtomMeaning a)
atom_reader m atom.Value = value m
atom_reader m atom.GepValue = filtered decode.index_fits (value m)
atom_reader m atom.Block = block m
atom_reader m atom.Index = index
atom_reader m atom.Align = align
atom_reader m atom.Case = word 32 some
atom_reader m atom.Param = word 6 (maybe_name m)

abbrev pub atom_test : (a : Atom) → AtomMeaning a → Bool
atom_test atom.Value = is_other
atom_test atom.GepValue = is_other
atom_test atom.Block = never
atom_test atom.Index = never
atom_test atom.Align = never
atom_test atom.Case = never
atom_test atom.Param = never

abbrev pub item_of : Item → book.Item
item_of «Type» = book.Item.type
item_of Value = book.Item.value
item_of Block = book.Item.block
item_of Index = book.Item.index
item_of Align = book.Item.align
item_of Typed = book.Item.typed
item_of GepIndex = book.Item.gep_index
item_of Incoming = book.Item.incoming
item_of Case = book.Item.case
item_of Param = book.Item.param
