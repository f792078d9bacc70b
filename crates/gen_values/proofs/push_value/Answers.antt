-- `gen_values::push_value` meets its contract: the group of the kind tells the value.
use mathlib.Core.Logic.{⊎_elim}
use mathlib.Core.Path.{◌≡◌, sym, ◌∙◌}
use Rattle.book.specs.Ast.{Value}
use native.Mathlib.Omega.{arith}
use lib.ListN.{get_or}
use Rattle.gen_values.specs.Values.{value_of, value_shape}
use Rattle.gen_values.specs.Fields.{local_below}
use Rattle.gen_values.specs.Push as laws
use Rattle.gen_values.proofs.push_value.Goals as goal

pub push_local-requires : goal.push_local-requires
push_local-requires c =
    c.requires.reaches.there (value_shape (get_or c.args.kinds.now 0 0) (get_or c.args.words.now 0 0) (sym c.in-Local.is ∙ c.value_group.ensures))

pub returns-in-Local : goal.returns-in-Local
returns-in-Local c = λ m k v at maps.
    let shape = value_shape (get_or c.args.kinds.now 0 0) (get_or c.args.words.now 0 0) (sym c.in-Local.is ∙ c.value_group.ensures) in
    rw (sym at.is, shape) (laws.local_width k c.args.width (get_or c.args.words.now 0 0)
    (c.push_local.ensures m k (local_below m _ v at.limits (sym at.is ∙ shape)) maps))

pub returns-in-Global : goal.returns-in-Global
returns-in-Global c = λ m k v at maps.
    let shape = value_shape (get_or c.args.kinds.now 0 0) (get_or c.args.words.now 0 0) (sym c.in-Global.is ∙ c.value_group.ensures) in
    rw (sym at.is, shape) (laws.global_puts k c.args.width (get_or c.args.words.now 0 0)
    (omega (arith, c.shared_slice_known-4-1.given 0)) c.put.ensures)

pub returns-in-Int : goal.returns-in-Int
returns-in-Int c = λ m k v at maps.
    let shape = value_shape (get_or c.args.kinds.now 0 0) (get_or c.args.words.now 0 0) (sym c.in-Int.is ∙ c.value_group.ensures) in
    rw (sym at.is, shape) (laws.number_puts k c.args.width (get_or c.args.words.now 0 0) c.push_int.ensures)

pub returns-in-Zero : goal.returns-in-Zero
returns-in-Zero c = λ m k v at maps.
    let shape = value_shape (get_or c.args.kinds.now 0 0) (get_or c.args.words.now 0 0) (sym c.in-Zero.is ∙ c.value_group.ensures) in
    rw (sym at.is, shape.1) (laws.zero_puts k c.args.width shape.0 c.put-in-Zero.ensures)

pub returns-in-Other : goal.returns-in-Other
returns-in-Other c = λ m k v at maps.
    let kind = get_or c.args.kinds.now 0 0 in
    let word = get_or c.args.words.now 0 0 in
    let shape : value_of kind word ≡ Value.other =
    ⊎_elim (λ e. value_shape kind word (sym e ∙ c.value_group.ensures)) (λ e. value_shape kind word (sym e ∙ c.value_group.ensures)) c.in-Other.is in
    rw (sym at.is, shape) (laws.other_puts k c.args.width c.args.lines.now c.args.operands.now c.refuse.ensures)
