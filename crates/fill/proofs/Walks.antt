-- A walk over rows, one after the other: what is left to read, what each node has got, and the room for the rest.
-- The rows so far and those that are left are the rows that are read; the next row goes from the ones to the others.
use mathlib.Core.Path.{◌≡◌, refl, sym, ap, ◌∙◌}
use mathlib.Core.List.{List}
use Prim.Native.Nat.{ℕ, zero, suc, ◌+◌, ◌-◌, ◌≤◌, ◌<◌}
use native.Mathlib.Nat.{add-zero}
use native.Mathlib.Omega.{arith}
use Rattle.image.specs.Record.{node_count}
use Rattle.image.specs.Row.{Row, Rows, none, more, one, rows_then}
use Rattle.image.specs.RowBytes.{count}
use Rattle.image.specs.Parse.{Parsed, failed, parsed, made, row_then, rows_of, row_of_each, row_in}
use Rattle.image.specs.Built.{from_each}
use Rattle.built.specs.Walk.{over_nodes, over_each, gives, the_row, the_rows}
use Rattle.built.proofs.Parsed.{made_back, then_back}
use Rattle.built.proofs.Walk.{then_none, then_assoc}
use Rattle.fill.specs.Filling.{State, Rooms, Ready, Filled, ToWalk, Walked, RowWalk, RowWalked, RowsWalk, RowsWalked, gap_gives}
use Rattle.fill.proofs.Steps.{filled_none, filled_as, filled_then, rooms_as, rooms_first, rooms_rest, ready_after}
use Rattle.fill.proofs.Parts.{count_more}

-- what was read, by its name
pub the_row_lem : {p : Parsed Row} {r : Row} {rest : List ℕ} → p ≡ parsed r rest → the_row p ≡ r
the_row_lem e = rw e

pub the_rows_lem : {p : Parsed Rows} {rs : Rows} {rest : List ℕ} → p ≡ parsed rs rest → the_rows p ≡ rs
the_rows_lem e = rw e

-- rows of one node as rows of each of some nodes
rows_each : (row : List ℕ → Parsed Row) (c n : ℕ) (x : List ℕ) → rows_of row n x ≡ row_of_each (λ m. row) c n x
unfolding rows_of row_of_each
rows_each row c zero x = refl
rows_each row c (suc n) x = cases (row x) (λ y. rows_each row (suc c) n y)
  where
    cases : (p : Parsed Row) → ((y : List ℕ) → rows_of row n y ≡ row_of_each (λ m. row) (suc c) n y) → row_then p (rows_of row n) ≡ row_then p (row_of_each (λ m. row) (suc c) n)
    cases failed same = refl
    cases (parsed r y) same = ap (made (more r)) (same y)

from_each_lem : (g : Row → Rows) (c : ℕ) (qs : Rows) → from_each g qs ≡ over_each (λ m. g) c qs
unfolding from_each over_each
from_each_lem g c none = refl
from_each_lem g c (more q qs) = ap (rows_then (g q)) (from_each_lem g (suc c) qs)

each_more : (g : ℕ → Row → Rows) (c : ℕ) (qs : Rows) (q : Row) → over_each g c (rows_then qs (one q)) ≡ rows_then (over_each g c qs) (g (c + count qs) q)
unfolding over_each rows_then count
each_more g c none q = rw (add-zero c) (then_none (g c q))
each_more g c (more r qs) q =
    let e : suc c + count qs ≡ c + suc (count qs) = omega arith in
    rw (each_more g (suc c) qs q, e) (sym (then_assoc (g c r) (over_each g (suc c) qs) (g (c + suc (count qs)) q)))

-- a row, and then rows
row_then_lem : (p : Parsed Row) (f : List ℕ → Parsed Rows) (rs : Rows) (rest : List ℕ) → row_then p f ≡ parsed rs rest → (q : Row) × (qs : Rows) × (mid : List ℕ) × (p ≡ parsed q mid) × (f mid ≡ parsed qs rest) × (rs ≡ more q qs)
row_then_lem p f rs rest e =
    let t = then_back p (λ r y. made (more r) (f y)) rs rest e in
    let m = made_back (more t.0) (f t.1) rs rest t.3 in
    (t.0, m.0, t.1, t.2, m.1, sym m.2)

same_rest : {x y : Row} {u v : List ℕ} → parsed x u ≡ parsed y v → u ≡ v
same_rest e = cc

one_then : (q : Row) (qs : Rows) → rows_then (one q) qs ≡ more q qs
unfolding rows_then
one_then q qs = refl

-- Where a walk over a row of each of n nodes from c on stands before row i: `row m` reads a row of node m, and `give m q j` is
-- what row q of node m gives node j.
pub record Going (row : ℕ → List ℕ → Parsed Row) (give : ℕ → Row → ℕ → Rows) (s places : List ℕ) (c n : ℕ) (p : Parsed Rows) (f₀ f : State) (next : List ℕ) (i : ℕ) : Type 0 where
  pub few : i ≤ n
  pub before : Rows
  pub left : Rows
  pub rest : List ℕ
  pub whole : p ≡ parsed (rows_then before left) rest
  pub size : count before ≡ i
  pub reads : row_of_each row (c + i) (n - i) next ≡ parsed left rest
  pub ready : Ready s places f
  pub filled : Filled s places (λ j. over_each (λ m q. give m q j) c before) f₀ f
  pub rooms : Rooms s places (λ j. over_each (λ m q. give m q j) (c + i) left) f

module _ {row : ℕ → List ℕ → Parsed Row} {give : ℕ → Row → ℕ → Rows} {s places : List ℕ} {c n : ℕ} {p : Parsed Rows} where
  pub going_start : {f : State} (b : List ℕ) → p ≡ row_of_each row c n b → ToWalk s places p (the_rows p) (λ j. over_each (λ m q. give m q j) c (the_rows p)) f → Going row give s places c n p f f b 0
  unfolding over_each rows_then count
  going_start {f} b e w =
      let a : c + 0 ≡ c = omega arith in
      let m : n - 0 ≡ n = omega arith in
      record {
        few = omega arith;
        before = none;
        left = the_rows p;
        rest = w.reads.rest;
        whole = w.reads.is;
        size = refl;
        reads = rw (a, m, ← e) w.reads.is;
        ready = w.ready;
        filled = filled_none (λ j lt. refl);
        rooms = rw a w.rooms;
      }

  module _ {f₀ f : State} {next : List ℕ} {i : ℕ} (g : Going row give s places c n p f₀ f next i) where
    module _ (lt : i < n) where
      next_read : row_then (row (c + i) next) (row_of_each row (c + (i + 1)) (n - (i + 1))) ≡ parsed g.left g.rest
      unfolding row_of_each
      next_read =
          let a : n - i ≡ suc (n - (i + 1)) = omega arith in
          let d : c + (i + 1) ≡ suc (c + i) = omega arith in
          rw d (rw a at g.reads)

      abbrev told : (q : Row) × (qs : Rows) × (mid : List ℕ) × (row (c + i) next ≡ parsed q mid) × (row_of_each row (c + (i + 1)) (n - (i + 1)) mid ≡ parsed qs g.rest) × (g.left ≡ more q qs)
      told = row_then_lem (row (c + i) next) (row_of_each row (c + (i + 1)) (n - (i + 1))) g.left g.rest next_read

      row_is : the_row (row (c + i) next) ≡ told.0
      row_is = the_row_lem told.3

      left_rooms : Rooms s places (λ j. rows_then (give (c + i) told.0 j) (over_each (λ m q. give m q j) (c + (i + 1)) told.1)) f
      unfolding over_each
      left_rooms =
          let a : suc (c + i) ≡ c + (i + 1) = omega arith in
          rooms_as g.rooms (λ j lt. ap (over_each (λ m q. give m q j) (c + i)) told.5 ∙ ap (λ (x : ℕ). rows_then (give (c + i) told.0 j) (over_each (λ m q. give m q j) x told.1)) a)

      pub going_row : ToWalk s places (row (c + i) next) (the_row (row (c + i) next)) (give (c + i) (the_row (row (c + i) next))) f
      going_row =
          record {
            ready = g.ready;
            reads = record { rest = told.2; is = rw row_is told.3 };
            rooms = rw row_is (rooms_first (λ j. give (c + i) told.0 j) (λ j. over_each (λ m q. give m q j) (c + (i + 1)) told.1) left_rooms);
          }

      pub going_more : {f' : State} {e : List ℕ} → Walked s places (row (c + i) next) (the_row (row (c + i) next)) (give (c + i) (the_row (row (c + i) next))) f f' e → Going row give s places c n p f₀ f' e (i + 1)
      going_more {f'} {e} w =
          let follows : told.2 ≡ e = same_rest (sym told.3 ∙ w.follows) in
          let step : Filled s places (λ j. give (c + i) told.0 j) f f' = rw (← row_is) w.filled in
          let size : count g.before ≡ i = g.size in
          record {
            few = omega arith;
            before = rows_then g.before (one told.0);
            left = told.1;
            rest = g.rest;
            whole = g.whole ∙ ap (λ (x : Rows). parsed x g.rest) (ap (rows_then g.before) told.5 ∙ sym (then_assoc g.before (one told.0) told.1 ∙ ap (rows_then g.before) (one_then told.0 told.1)));
            size = count_more g.before told.0 ∙ ap (λ (m : ℕ). m + 1) g.size;
            reads = rw (← follows) told.4;
            ready = ready_after g.ready step;
            filled = filled_as (filled_then g.filled step) (λ j lt. sym (each_more (λ m q. give m q j) c g.before told.0 ∙ rw g.size));
            rooms = rooms_rest left_rooms step;
          }

    pub going_done : n ≤ i → Walked s places p (the_rows p) (λ j. over_each (λ m q. give m q j) c (the_rows p)) f₀ f next
    unfolding row_of_each
    going_done le =
        let m : n - i ≡ 0 = omega arith in
        let nothing : parsed none next ≡ parsed g.left g.rest = rw m at g.reads in
        let none_left : g.left ≡ none = cc in
        let behind : g.rest ≡ next = cc in
        let all : rows_then g.before g.left ≡ g.before = rw none_left (then_none g.before) in
        let is : the_rows p ≡ g.before = the_rows_lem g.whole ∙ all in
        record {
          follows = rw is (g.whole ∙ rw (all, behind));
          filled = rw is g.filled;
        }

-- n rows are n
pub rows_count : (row : List ℕ → Parsed Row) (n : ℕ) (x : List ℕ) (rs : Rows) (rest : List ℕ) → rows_of row n x ≡ parsed rs rest → count rs ≡ n
unfolding rows_of count
rows_count row zero x rs rest e =
    let empty : rs ≡ none = cc in
    rw empty
rows_count row (suc n) x rs rest e =
    let t = row_then_lem (row x) (rows_of row n) rs rest e in
    rw t.5 (ap suc (rows_count row n t.2 t.1 rest t.4))

-- n rows of one node
pub record RowsLeft (s places b : List ℕ) (d k n : ℕ) (f₀ f : State) (next : List ℕ) (i : ℕ) : Type 0 where
  pub node : k < node_count s
  pub going : Going (λ m. row_in d s k) (λ m q j. gives d s k q j) s places 0 n (rows_of (row_in d s k) n b) f₀ f next i

module _ {s places b : List ℕ} {d k n : ℕ} where
  pub rows_start : {f : State} → RowsWalk s places b d k n f → RowsLeft s places b d k n f f b 0
  rows_start x =
      record {
        node = x.node;
        going = going_start b (rows_each (row_in d s k) 0 n b)
            (record { ready = x.walk.ready; reads = x.walk.reads; rooms = rooms_as x.walk.rooms (λ j lt. from_each_lem (λ q. gives d s k q j) 0 (the_rows (rows_of (row_in d s k) n b))) });
      }

  module _ {f₀ f : State} {next : List ℕ} {i : ℕ} (g : RowsLeft s places b d k n f₀ f next i) where
    pub rows_row : i < n → RowWalk s places next d k f
    rows_row lt = record { node = g.node; walk = going_row g.going lt }

    pub rows_more : {f' : State} {e : List ℕ} → i < n → RowWalked s places next d k f f' e → RowsLeft s places b d k n f₀ f' e (i + 1)
    rows_more lt w = record { node = g.node; going = going_more g.going lt w.done }

    pub rows_done : n ≤ i → RowsWalked s places b d k n f₀ f next
    rows_done le =
        let w = going_done g.going le in
        record { done = record { follows = w.follows; filled = filled_as w.filled (λ j lt. sym (from_each_lem (λ q. gives d s k q j) 0 (the_rows (rows_of (row_in d s k) n b)))) } }

-- The rows under a null, child by child.
nodes_more : (h : ℕ → Rows) (c n : ℕ) → over_nodes h c (n + 1) ≡ rows_then (over_nodes h c n) (h (c + n))
unfolding over_nodes rows_then
nodes_more h c zero = rw (add-zero c) (then_none (h c))
nodes_more h c (suc n) =
    let a : suc n + 1 ≡ suc (n + 1) = omega arith in
    let b : suc c + n ≡ c + suc n = omega arith in
    rw a (ap (rows_then (h c)) (nodes_more h (suc c) n) ∙ rw b (sym (then_assoc (h c) (over_nodes h (suc c) n) (h (c + suc n)))))

pub record GapsLeft (s places : List ℕ) (d first n : ℕ) (f₀ f : State) (i : ℕ) : Type 0 where
  pub few : i ≤ n
  pub ready : Ready s places f
  pub filled : Filled s places (λ j. over_nodes (λ c. gap_gives d s c j) first i) f₀ f
  pub rooms : Rooms s places (λ j. over_nodes (λ c. gap_gives d s c j) (first + i) (n - i)) f

module _ {s places : List ℕ} {d first n : ℕ} where
  pub gaps_start : {f : State} → Ready s places f → Rooms s places (λ j. over_nodes (λ c. gap_gives d s c j) first n) f → GapsLeft s places d first n f f 0
  unfolding over_nodes
  gaps_start ready rooms =
      let a : first + 0 ≡ first = omega arith in
      let m : n - 0 ≡ n = omega arith in
      record { few = omega arith; ready = ready; filled = filled_none (λ j lt. refl); rooms = rw (a, m) rooms }

  module _ {f₀ f : State} {i : ℕ} (g : GapsLeft s places d first n f₀ f i) where
    module _ (lt : i < n) where
      gap_split : Rooms s places (λ j. rows_then (gap_gives d s (first + i) j) (over_nodes (λ c. gap_gives d s c j) (first + (i + 1)) (n - (i + 1)))) f
      unfolding over_nodes
      gap_split =
          let m : n - i ≡ suc (n - (i + 1)) = omega arith in
          let a : suc (first + i) ≡ first + (i + 1) = omega arith in
          rooms_as g.rooms (λ j less. ap (over_nodes (λ c. gap_gives d s c j) (first + i)) m ∙ ap (λ (x : ℕ). rows_then (gap_gives d s (first + i) j) (over_nodes (λ c. gap_gives d s c j) x (n - (i + 1)))) a)

      pub gap_rooms : Rooms s places (gap_gives d s (first + i)) f
      gap_rooms = rooms_first (gap_gives d s (first + i)) (λ j. over_nodes (λ c. gap_gives d s c j) (first + (i + 1)) (n - (i + 1))) gap_split

      pub gaps_more : {f' : State} → Filled s places (gap_gives d s (first + i)) f f' → GapsLeft s places d first n f₀ f' (i + 1)
      gaps_more t =
          record {
            few = omega arith;
            ready = ready_after g.ready t;
            filled = filled_as (filled_then g.filled t) (λ j less. sym (nodes_more (λ c. gap_gives d s c j) first i));
            rooms = rooms_rest gap_split t;
          }

    pub gaps_done : n ≤ i → Filled s places (λ j. over_nodes (λ c. gap_gives d s c j) first n) f₀ f
    gaps_done le =
        let all : i ≡ n = omega (arith, g.few) in
        rw (← all) g.filled
