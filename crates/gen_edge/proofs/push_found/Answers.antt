-- `gen_edge::push_found` meets its contract.
use Rattle.gen_edge.specs.Copies.{typed_puts}
use Rattle.gen_edge.specs.Walks.{never}
use Rattle.gen_edge.proofs.push_found.Goals as goal

pub need_width-wide-requires : goal.need_width-wide-requires
need_width-wide-requires c =
    let ask = c.requires c.if-found.true in
    (ask.type_kinds, ask.type_words)

pub push_value-requires : goal.push_value-requires
push_value-requires c =
    let ask = c.requires c.if-found.true in
    ask.value

pub returns-then-found : goal.returns-then-found
returns-then-found c = λ t m k ty v says value maps.
    typed_puts k ty v (c.need_width-wide.ensures ty says) (c.push_value.ensures m k v value maps)

pub returns : goal.returns
returns c = λ t. never t c.if-found.false
