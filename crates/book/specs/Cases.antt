-- Small books by computation: what "Sheets to check" and the examples of "Replies" say of refusals 1 to 4.
use Rattle.std.specs.Prelude.{ℕ, ◌+◌, ◌^◌, ◌≡◌, refl, List, [], ◌∷◌, ◌++◌}
use Rattle.std.proofs.Math.Option.{some}
use Rattle.names.specs.Text.{bytes}
use Rattle.names.specs.Name.{join}
use Rattle.book.specs.Ast.{Ty, Value, BinOp, InstKind, Terminator}
use Rattle.book.specs.AgreeInput.{slice}
use Rattle.book.specs.Input.{Counted, book_in}
use Rattle.book.specs.Check.{checked, refusal_of}
use Rattle.book.specs.Open.{open_book}

-- ---- `i32 @add1(i32 %a)`, block `entry`: `%r = add i32 %a, 1`, `ret i32 %r`
abbrev add1_names : List ℕ
add1_names = join (bytes "a" ∷ bytes "add1" ∷ bytes "entry" ∷ bytes "r" ∷ [])

abbrev add1 : List ℕ
add1 =
    15 ∷ 4
    ∷ 5 ∷ 11 ∷ 6 ∷ 11 ∷ 0 ∷ 7 ∷ 40 ∷ 11 ∷ 30 ∷ 32 ∷ 90 ∷ 11 ∷ 30 ∷ 0 ∷ 0
    ∷ 1 ∷ 32 ∷ 1 ∷ 32 ∷ 0 ∷ 2 ∷ 4 ∷ 32 ∷ 0 ∷ 1 ∷ 0 ∷ 32 ∷ 3 ∷ 0 ∷ 0 ∷ []

abbrev add1_book : Counted
add1_book = record {
  count = 4;
  book = record {
    marks = [];
    structs = [];
    functions = record {
      name = 1;
      ret_ty = Ty.int 32;
      params = record { ty = Ty.int 32; name = some 0 } ∷ [];
      blocks = record {
        label = 2;
        insts = record { dest = some 3; kind = InstKind.bin BinOp.add (Ty.int 32) (Value.local 0) (Value.int 1) } ∷ [];
        term = Terminator.ret (some (record { ty = Ty.int 32; val = Value.local 3 }));
      } ∷ [];
    } ∷ [];
  };
}

pub add1_decodes : book_in add1 ≡ some add1_book
unfolding open_book
add1_decodes = refl

pub add1_encodes : slice add1_book ≡ add1
unfolding open_book slice
add1_encodes = refl

-- ---- the answers of the check
-- the same book with one entry's kind or word replaced: `put i v` of the slice
abbrev put : ℕ → ℕ → List ℕ → List ℕ
put i v s = lib.ListN.set s i v

-- a function `f` with one block `b` that calls a global and returns: names `b`, `f`, then the callee's
abbrev calls : ℕ → List ℕ
calls callee =
    11 ∷ 3
    ∷ 5 ∷ 10 ∷ 0 ∷ 7 ∷ 76 ∷ 10 ∷ 31 ∷ 0 ∷ 93 ∷ 0 ∷ 0
    ∷ 1 ∷ 0 ∷ 0 ∷ 0 ∷ 0 ∷ 0 ∷ callee ∷ 0 ∷ 0 ∷ 0 ∷ 0 ∷ []

abbrev call_names : List ℕ
call_names = join (bytes "b" ∷ bytes "f" ∷ bytes "llvm.trap" ∷ [])

-- the same with the callee marked reserved
abbrev marked : List ℕ
marked =
    12 ∷ 3
    ∷ 2 ∷ 5 ∷ 10 ∷ 0 ∷ 7 ∷ 76 ∷ 10 ∷ 31 ∷ 0 ∷ 93 ∷ 0 ∷ 0
    ∷ 2 ∷ 1 ∷ 0 ∷ 0 ∷ 0 ∷ 0 ∷ 0 ∷ 2 ∷ 0 ∷ 0 ∷ 0 ∷ 0 ∷ []

abbrev marked_names : List ℕ
marked_names = join (bytes "b" ∷ bytes "f" ∷ bytes "sinf" ∷ [])

abbrev answer : List ℕ → List ℕ → ℕ → ℕ → ℕ
answer book names counter work = refusal_of (checked book names counter work)

-- in order: add1; the empty book; counter 2^32 and one more; `b`, then `a`; one name too many; kind 37 for an operand; a call of `@llvm.trap`;
-- a reserved callee; work length 0, one short, and just enough; a book that breaks 1, 2, 3 and 4; that breaks 2, 3 and 4; that breaks 3 and 4
pub answers :
    answer add1 add1_names 0 96
    ∷ answer [] [] 0 64
    ∷ answer add1 add1_names (2 ^ 32) 96
    ∷ answer add1 add1_names (2 ^ 32 + 1) 96
    ∷ answer add1 (join (bytes "b" ∷ bytes "a" ∷ bytes "entry" ∷ bytes "r" ∷ [])) 0 96
    ∷ answer add1 (add1_names ++ join (bytes "s" ∷ [])) 0 96
    ∷ answer (put 11 37 (put 26 0 add1)) add1_names 0 96
    ∷ answer (calls 2) call_names 0 88
    ∷ answer marked marked_names 0 88
    ∷ answer add1 add1_names 0 0
    ∷ answer add1 add1_names 0 95
    ∷ answer (put 11 37 (put 26 0 (put 12 94 add1))) [] 0 0
    ∷ answer (put 11 37 (put 26 0 add1)) [] 0 0
    ∷ answer (put 11 37 (put 26 0 add1)) add1_names 0 0
    ∷ []
    ≡ 0 ∷ 1 ∷ 0 ∷ 1 ∷ 2 ∷ 2 ∷ 3 ∷ 3 ∷ 3 ∷ 4 ∷ 4 ∷ 1 ∷ 2 ∷ 3 ∷ []
unfolding open_book
answers = refl
