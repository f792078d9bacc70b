-- `gen_frame::places::place` meets its contract: an alignment that is refused is handed on before the size is measured.
use Rattle.std.proofs.lemmas.Result.{err_from_is_err_and}
use Rattle.gen_frame.specs.Placed as laws
use Rattle.gen_frame.proofs.places.place.Goals as goal

pub align_of-requires : goal.align_of-requires
align_of-requires c = laws.place_ask c.requires

pub returns-in_err-align : goal.returns-in_err-align
returns-in_err-align c =
    let p = err_from_is_err_and c.from_residual.result c.from_residual.ensures.1 in
    rw (p.1, p.2)
    (laws.align_barred c.args.names _ _ c.args.name c.args.count c.align_of.ensures c.in_err-align.was)

pub size_of-requires : goal.size_of-requires
size_of-requires c =
    laws.place_ask (laws.align_ask c.args.names _ _ c.args.name c.args.count c.in_ok-align.was c.requires c.align_of.ensures).ask

pub returns-in_err-size : goal.returns-in_err-size
returns-in_err-size c =
    let p = err_from_is_err_and c.from_residual-in_err-size.result c.from_residual-in_err-size.ensures.1 in
    rw (p.1, p.2)
    (laws.align_done c.args.names _ _ c.args.name c.args.count c.in_ok-align.was c.align_of.ensures
    (laws.size_barred c.args.names _ _ c.args.name c.args.count _ c.size_of.ensures c.in_err-size.was))

pub fix_place-requires : goal.fix_place-requires
fix_place-requires c =
    laws.size_ask c.args.names _ _ c.args.name c.args.count c.in_ok-size.was _
    (laws.align_ask c.args.names _ _ c.args.name c.args.count c.in_ok-align.was c.requires c.align_of.ensures) c.size_of.ensures

pub returns : goal.returns
returns c =
    laws.align_done c.args.names _ _ c.args.name c.args.count c.in_ok-align.was c.align_of.ensures
    (laws.size_done c.args.names _ _ c.args.name c.args.count c.in_ok-size.was _
    (laws.align_ask c.args.names _ _ c.args.name c.args.count c.in_ok-align.was c.requires c.align_of.ensures) c.size_of.ensures c.fix_place.ensures)
