-- `book_insts::fields_behind` meets its contract: a kind from 90 on is a terminator's, any other an instruction's; the word decides with it.
use mathlib.Core.Path.{◌∙◌, ap}
use borrow.Author.Tests.{le-leb, lt-leb, eq-eqb, ne_eqb}
use Rattle.book.specs.Kinds.{inst_tag, term_tag}
use Rattle.book_insts.specs.Insts.{inst_shape, term_shape}
use Rattle.book_insts.specs.InstLaws as laws
use Rattle.book_insts.proofs.fields_behind.Goals as goal

pub returns-then-word-ne0 : goal.returns-then-word-ne0
returns-then-word-ne0 c =
    let a = c.args in
    rw (le-leb 90 a.kind c.if-kind-ge-RET.true, ne_eqb a.word 0 c.if-word-ne0.true)

pub returns-then-kind-ge-RET : goal.returns-then-kind-ge-RET
returns-then-kind-ge-RET c =
    let a = c.args in
    rw (le-leb 90 a.kind c.if-kind-ge-RET.true, eq-eqb a.word 0 c.if-word-ne0.false)
    (c.term_fields.ensures ∙ ap term_shape c.term_group.ensures ∙ laws.term_shape_lem (term_tag a.kind))

pub returns-then-names-word : goal.returns-then-names-word
returns-then-names-word c =
    let a = c.args in
    rw (lt-leb 90 a.kind c.if-kind-ge-RET.false, lt-leb a.word a.names c.if-names-word.true)

pub returns : goal.returns
returns c =
    let a = c.args in
    rw (lt-leb 90 a.kind c.if-kind-ge-RET.false, le-leb a.word a.names c.if-names-word.false)
    (c.inst_fields.ensures ∙ ap inst_shape c.inst_group.ensures ∙ laws.inst_shape_lem (inst_tag a.kind))
