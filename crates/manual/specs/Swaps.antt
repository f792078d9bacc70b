-- Memory: stores of each type, compare-and-swap, and the parts of its result, which extractvalue alone may read.
use Rattle.std.specs.Prelude.{ℕ, ◌+◌, ◌-◌, ◌%◌, ◌^◌, ◌≡◌, refl, cond, List, [], ◌∷◌, ◌++◌, map, eqb, drop, replicate}
use Rattle.std.proofs.Math.Option.{Option, none, some}
use Rattle.book.specs.Ast.{Ty, Value, InstKind}
use Rattle.book.specs.Result.{Result, ok, bind}
use Rattle.layout.specs.Frame.{no_frame}
use Rattle.machine.specs.Sweep.{OnAll, up_to, pairs, little, open_sweep}
use Rattle.machine.specs.Memory.{Memory}
use Rattle.manual.specs.Stop.{Stop, stops}
use Rattle.manual.specs.State.{Cell, Source, nothing, with}
use Rattle.manual.specs.Inst.{run_inst}
use Rattle.manual.specs.Open.{open_manual}
use Rattle.manual.specs.Alone.{furnished, given, gives, zeros, open_alone}

-- ---- a type, its width and its bytes
pub record Sized : Type 0 where
  pub ty : Ty
  pub width : ℕ
  pub bytes : ℕ

unfoldable pub sizes : List Sized
sizes =
    record { ty = Ty.int 1; width = 1; bytes = 1 } ∷ record { ty = Ty.int 8; width = 8; bytes = 1 } ∷ record { ty = Ty.int 16; width = 16; bytes = 2 } ∷
    record { ty = Ty.int 32; width = 32; bytes = 4 } ∷ record { ty = Ty.int 64; width = 64; bytes = 8 } ∷ record { ty = Ty.ptr; width = 64; bytes = 8 } ∷ []

-- about the end of memory and elsewhere
unfoldable pub addresses : List ℕ
addresses = 4096 ∷ 0 ∷ (2 ^ 64 - 1) ∷ (2 ^ 64 - 2) ∷ (2 ^ 64 - 5) ∷ (2 ^ 64 - 8) ∷ (2 ^ 64 - 9) ∷ []

-- every byte is 1
unfoldable pub before : Source
before = record { env = nothing; memory = λ a. 1; calls = []; sp = 65536 }

-- what the name gets, and what stands in the byte in front of an address, the 9 from there on, and at the end of these
pub record After : Type 0 where
  pub value : Option Cell
  pub bytes : List ℕ
  pub sp : ℕ

unfoldable pub bytes_from : Memory → (a n : ℕ) → List ℕ
bytes_from m a n = map (λ (k : ℕ). m ((a + k - 1) % 2 ^ 64)) (up_to n)

unfoldable pub after : InstKind → (address : ℕ) → Result After
after k a = bind (run_inst (given Ty.void no_frame []) (record { dest = some 200; kind = k }) before) λ σ.
    ok (record { value = σ.env 200; bytes = bytes_from σ.memory (a + 2 ^ 64 - 1) 10; sp = σ.sp })

-- n bytes of a value between bytes of 1
unfoldable pub between : (value : Option Cell) → List ℕ → (rest : ℕ) → Result After
between v bs r = ok (record { value = v; bytes = (1 ∷ bs) ++ replicate r 1; sp = 65536 })

open_this : Unit {0}
unfolding open_manual open_sweep open_alone sizes addresses before bytes_from after between
open_this = tt

-- a store sets the bytes of its type and gives no name a value; all bits set, so that an i1 is the byte 1
unfoldable pub ones : Sized → List ℕ
ones s = cond (eqb s.width 1) (1 ∷ []) (replicate s.bytes 255)

-- what a type's bytes are set to, between what stood there
unfoldable pub written : Option Cell → Sized → Result After
written v s = between v (ones s) (9 - s.bytes)

pub stores_hold :
    (OnAll (pairs sizes addresses) (λ (p : Sized × ℕ). after (InstKind.store p.0.ty (Value.int (2 ^ 64 - 1)) (Value.int p.1) none) p.1) (λ (p : Sized × ℕ). written none p.0))
    × (OnAll (pairs sizes addresses) (λ (p : Sized × ℕ). after (InstKind.atomic_store p.0.ty (Value.int (2 ^ 64 - 1)) (Value.int p.1)) p.1) (λ (p : Sized × ℕ). written none p.0))
unfolding open_this ones written
stores_hold = (refl, refl)

-- ---- "The contents of memory at the location .. is read and compared to cmp; if the values are equal, new is written": the value found, which is 257 and so on, and success
unfoldable pub found : Sized → ℕ
found s = little (replicate s.bytes 1)

unfoldable pub result : Sized → (success : ℕ) → Option Cell
result s b = some (Cell.two s.width (found s) b)

-- of 8 bits and more
unfoldable pub swappable : List Sized
swappable = drop 1 sizes

unfoldable pub swap : Sized × ℕ → (compared : ℕ) → Result After
swap p c = after (InstKind.cmpxchg p.0.ty (Value.int p.1) (Value.int c) (Value.int (2 ^ 64 - 1))) p.1

pub swaps_hold :
    (OnAll (pairs swappable addresses) (λ (p : Sized × ℕ). swap p (found p.0)) (λ (p : Sized × ℕ). written (result p.0 1) p.0))
    × (OnAll (pairs swappable addresses) (λ (p : Sized × ℕ). swap p (found p.0 + 1)) (λ (p : Sized × ℕ). between (result p.0 0) [] 9))
    × (OnAll (pairs swappable addresses) (λ (p : Sized × ℕ). swap p (found p.0 + 2 ^ (p.0.width - 1))) (λ (p : Sized × ℕ). between (result p.0 0) [] 9))
unfolding open_this ones written found result swappable swap
swaps_hold = (refl, refl, refl)

-- ---- "'extractvalue' Instruction": index 0 is the value found, at its width, 1 the success, at one bit; no other index is in bounds, and no other value has parts
unfoldable pub parts : Value → List (Result (Option Cell))
parts v = map (λ (k : ℕ). gives (with 101 (Cell.two 8 200 0) furnished) (InstKind.extract_value v k)) (0 ∷ 1 ∷ 2 ∷ 3 ∷ (2 ^ 32 - 1) ∷ [])

unfoldable pub out_of_bounds : List (Result (Option Cell))
out_of_bounds = replicate 3 (stops Stop.ill_formed)

pub parts_hold :
    (map parts (Value.local 100 ∷ Value.local 101 ∷ [])
    ≡ (ok (some (Cell.one 64 5)) ∷ ok (some (Cell.one 1 1)) ∷ out_of_bounds) ∷ (ok (some (Cell.one 8 200)) ∷ ok (some (Cell.one 1 0)) ∷ out_of_bounds) ∷ [])
    × (OnAll (Value.local 1 ∷ Value.local 8 ∷ Value.local 64 ∷ Value.global 1 ∷ Value.int 5 ∷ Value.other ∷ []) parts (λ (v : Value). replicate 5 (stops Stop.ill_formed)))
    × (OnAll zeros parts (λ (v : Value). replicate 5 (stops Stop.aggregate)))
    × (parts (Value.local 99) ≡ replicate 5 (stops Stop.unset))
unfolding open_this parts out_of_bounds
parts_hold = (refl, refl, refl, refl)

-- "`store`, `fence` and other instructions without a value set no name"
pub fence_sets_nothing : gives nothing InstKind.fence ≡ ok none
unfolding open_this
fence_sets_nothing = refl
