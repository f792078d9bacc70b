-- Where the source run stops: document 01, "Stops". A run's answer is a state or a number: that of a stop, from 101 on, or 200 where a reply breaks a premise. (A
-- type that cannot be measured answers with its refusal. In a book that the translator accepts none of these is met: `agreement`, `only-stops`.) Where no sentence
-- applies it goes on: `Goes` and `GoesOn` say where, in positive words.
use Rattle.std.specs.Prelude.{ℕ, Bool, true, false}
use Rattle.book.specs.Result.{Result, ok, err}

pub data Stop : Type 0 where
  -- "reading an unset local or one at another width"
  unset other_width : Stop
  -- "anything the manual calls ill-formed, or undefined or poison apart from addresses and alignment"
  ill_formed undefined : Stop
  -- "an integer outside both the signed and the unsigned range of its width (a switch case: of its condition's)"
  integer_range : Stop
  -- "a constant GEP index outside its type's signed range"
  index_range : Stop
  -- "an i1 load of a byte above 1"
  load_range : Stop
  -- "a value of struct, packed struct, array or packed array type, save a cmpxchg's own result, which extractvalue alone may read"
  aggregate : Stop
  -- "a function's or call's result type not integer, pointer or void"
  result_type : Stop
  -- "a fixed alloca run twice, or in the size-0 case above"
  place_twice place_empty : Stop
  -- "a syscall against its fixed shape"
  syscall_shape : Stop
  -- "unreachable; no block"
  unreachable no_block : Stop

-- stops are numbered behind the refusals
unfoldable pub stop_number : Stop → ℕ
stop_number Stop.unset = 101
stop_number Stop.other_width = 102
stop_number Stop.ill_formed = 103
stop_number Stop.undefined = 104
stop_number Stop.integer_range = 105
stop_number Stop.index_range = 106
stop_number Stop.load_range = 107
stop_number Stop.aggregate = 108
stop_number Stop.result_type = 109
stop_number Stop.place_twice = 110
stop_number Stop.place_empty = 111
stop_number Stop.syscall_shape = 112
stop_number Stop.unreachable = 113
stop_number Stop.no_block = 114

abbrev pub stops : {A : Type 0} → Stop → Result A
stops s = err (stop_number s)

-- no stop: "replies .. fit their widths" is a premise, and this reply breaks it
abbrev pub unfit : {A : Type 0} → Result A
unfit = err 200

-- a test that must hold, or the run stops there
unfoldable pub need : Bool → Stop → Result (Unit {0})
need true s = ok tt
need false s = stops s

-- opens every definition of this file, for an example that computes
unfoldable pub open_stop : Unit {0}
unfolding stop_number need
open_stop = tt
