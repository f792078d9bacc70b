-- `book_insts::inst_fields` meets its contract: the fields are those of the group.
use mathlib.Core.Path.{sym, ap}
use Rattle.book_insts.specs.Insts.{inst_shape}
use Rattle.book_insts.proofs.inst_fields.Goals as goal

pub returns-in-Bin : goal.returns-in-Bin
returns-in-Bin c = ap inst_shape (sym c.in-Bin.is)

pub returns-in-Conv : goal.returns-in-Conv
returns-in-Conv c = ap inst_shape (sym c.in-Conv.is)

pub returns-in-ICmp : goal.returns-in-ICmp
returns-in-ICmp c = ap inst_shape (sym c.in-ICmp.is)

pub returns-in-Select : goal.returns-in-Select
returns-in-Select c = ap inst_shape (sym c.in-Select.is)

pub returns-in-Load : goal.returns-in-Load
returns-in-Load c = ap inst_shape (sym c.in-Load.is)

pub returns-in-Store : goal.returns-in-Store
returns-in-Store c = ap inst_shape (sym c.in-Store.is)

pub returns-in-Alloca : goal.returns-in-Alloca
returns-in-Alloca c = ap inst_shape (sym c.in-Alloca.is)

pub returns-in-GetElementPtr : goal.returns-in-GetElementPtr
returns-in-GetElementPtr c = ap inst_shape (sym c.in-GetElementPtr.is)

pub returns-in-Phi : goal.returns-in-Phi
returns-in-Phi c = ap inst_shape (sym c.in-Phi.is)

pub returns-in-Call : goal.returns-in-Call
returns-in-Call c = ap inst_shape (sym c.in-Call.is)

pub returns-in-Freeze : goal.returns-in-Freeze
returns-in-Freeze c = ap inst_shape (sym c.in-Freeze.is)

pub returns-in-AtomicLoad : goal.returns-in-AtomicLoad
returns-in-AtomicLoad c = ap inst_shape (sym c.in-AtomicLoad.is)

pub returns-in-AtomicStore : goal.returns-in-AtomicStore
returns-in-AtomicStore c = ap inst_shape (sym c.in-AtomicStore.is)

pub returns-in-Cmpxchg : goal.returns-in-Cmpxchg
returns-in-Cmpxchg c = ap inst_shape (sym c.in-Cmpxchg.is)

pub returns-in-ExtractValue : goal.returns-in-ExtractValue
returns-in-ExtractValue c = ap inst_shape (sym c.in-ExtractValue.is)

pub returns-in-Fence : goal.returns-in-Fence
returns-in-Fence c = ap inst_shape (sym c.in-Fence.is)

pub returns-in-Other : goal.returns-in-Other
returns-in-Other c = ap inst_shape (sym c.in-Other.is)
