-- The worked cases (docs/SPECIFICATION.md, 6), all of them: the rows of the layers below, and behind them two whole setups, a row for the answer and for each list.
-- The theorem `all_cases` (proofs/Cases.antt) says that each comes out as worked by hand.
-- Assumes nothing.
use Rattle.std.specs.Prelude.{ℕ, ◌*◌, List, [], ◌∷◌, ◌++◌, replicate, Float}
use Rattle.numbers.specs.Complex.{zero_f, one_number}
use Rattle.lattice.specs.declared.lattice.Edges.TheVariants.{Bloch}
use Rattle.lattice.specs.Check.{Verdict, accepted, refused}
use Rattle.lattice.specs.Cases.{Case, over, ends}
use Rattle.operators.specs.Cases as Below
use Rattle.store.specs.Store.{Store, lent}
use Rattle.store.specs.Setup.{Input, Result, result_of, setup_of}
use Rattle.store.specs.declared.Choice.{Choice}
use Rattle.store.specs.declared.Choice.TheVariants.{Galerkin, Rediscretized}

-- ---- a result as rows

-- the answer as whole numbers: the level count, or a refusal's number and place
abbrev pub said : Verdict → List ℕ
said (accepted n) = n ∷ []
said (refused number place) = number ∷ (place ∷ [])

abbrev pub words : List ℕ → List ℕ → Case
words cs es = record { computed = ends cs; expected = ends es }

abbrev pub doubles : List Float → List Float → Case
doubles cs es = record { computed = record { places = []; doubles = cs }; expected = record { places = []; doubles = es } }

-- what is computed against what was worked out: the answer, then the twelve lists
unfoldable pub setting : Result → Result → List Case
setting c e =
    words (said c.verdict) (said e.verdict)
    ∷ words c.store.ends e.store.ends
    ∷ doubles c.store.permittivities e.store.permittivities
    ∷ words c.store.forward_starts e.store.forward_starts
    ∷ words c.store.forward_columns e.store.forward_columns
    ∷ doubles c.store.forward_values e.store.forward_values
    ∷ words c.store.turned_starts e.store.turned_starts
    ∷ words c.store.turned_columns e.store.turned_columns
    ∷ doubles c.store.turned_values e.store.turned_values
    ∷ words c.store.operator_starts e.store.operator_starts
    ∷ words c.store.operator_columns e.store.operator_columns
    ∷ doubles c.store.operator_values e.store.operator_values
    ∷ doubles c.store.scaling e.store.scaling
    ∷ []

-- ---- the input: 4, 1, 1 cells, Bloch with p = 1, every other number 1, shift 0, coarsest 1

-- real numbers in doubles: +0 behind each
unfoldable pub reals : List Float → List Float
reals [] = []
reals (x ∷ xs) = x ∷ (zero_f ∷ reals xs)

unfoldable pub ones : ℕ → List Float
ones n = reals (replicate n (over 1 1))

unfoldable pub four_cells : Choice → Input
four_cells ch =
    record {
      lattice =
          record {
            grid = record { nx = 4; ny = 1; nz = 1; dx = over 1 1; dy = over 1 1; dz = over 1 1 };
            x = Bloch one_number;
            y = Bloch one_number;
            z = Bloch one_number;
            k0 = over 1 1;
            shift = zero_f;
          };
      xn = ones 4;
      xh = ones 4;
      yn = ones 1;
      yh = ones 1;
      zn = ones 1;
      zh = ones 1;
      choice = ch;
      coarsest = 1;
    }

-- ---- the lists that are lent: 7 in each word and each double, one place more than needed

unfoldable pub sevens : ℕ → List ℕ
sevens n = replicate n 7

unfoldable pub seven_numbers : ℕ → List Float
seven_numbers n = replicate (2 * n) (over 7 1)

unfoldable pub galerkin_lent : Store
galerkin_lent =
    lent (sevens 17) (seven_numbers 19)
    (sevens 14) (sevens 21) (seven_numbers 21)
    (sevens 8) (sevens 21) (seven_numbers 21)
    (sevens 8) (sevens 37) (seven_numbers 37)
    (seven_numbers 1)

unfoldable pub rediscretized_lent : Store
rediscretized_lent =
    lent (sevens 17) (seven_numbers 25)
    (sevens 14) (sevens 21) (seven_numbers 21)
    (sevens 8) (sevens 21) (seven_numbers 21)
    (sevens 8) (sevens 33) (seven_numbers 33)
    (seven_numbers 19)

-- ---- and what they hold behind a setup: two levels, of 4, 1, 1 and 2, 1, 1 cells; the last place of each list is 7 as before

-- level 0 along x, y, z, then level 1
unfoldable pub ends_left : List ℕ
ends_left = 0 ∷ 2 ∷ 4 ∷ 6 ∷ 8 ∷ 0 ∷ 2 ∷ 0 ∷ 2 ∷ 0 ∷ 4 ∷ 8 ∷ 0 ∷ 2 ∷ 0 ∷ 2 ∷ 7 ∷ []

-- 20 weights: x edges lie between two coarse ones, a quarter off the nearer; of y and z edges every other lies at a coarse one
unfoldable pub forward_starts_left : List ℕ
forward_starts_left = 0 ∷ 2 ∷ 4 ∷ 6 ∷ 8 ∷ 9 ∷ 11 ∷ 12 ∷ 14 ∷ 15 ∷ 17 ∷ 18 ∷ 20 ∷ 7 ∷ []

unfoldable pub forward_columns_left : List ℕ
forward_columns_left = 1 ∷ 0 ∷ 0 ∷ 1 ∷ 0 ∷ 1 ∷ 1 ∷ 0 ∷ 2 ∷ 2 ∷ 3 ∷ 3 ∷ 3 ∷ 2 ∷ 4 ∷ 4 ∷ 5 ∷ 5 ∷ 5 ∷ 4 ∷ 7 ∷ []

unfoldable pub forward_values_left : List Float
forward_values_left =
    reals (over 1 4 ∷ over 3 4 ∷ over 3 4 ∷ over 1 4 ∷ over 1 4 ∷ over 3 4 ∷ over 3 4 ∷ over 1 4 ∷ [])
    ++ reals (over 1 1 ∷ over 1 2 ∷ over 1 2 ∷ over 1 1 ∷ over 1 2 ∷ over 1 2 ∷ [])
    ++ reals (over 1 1 ∷ over 1 2 ∷ over 1 2 ∷ over 1 1 ∷ over 1 2 ∷ over 1 2 ∷ [])
    ++ seven_numbers 1

-- the same weights by coarse edge
unfoldable pub turned_starts_left : List ℕ
turned_starts_left = 0 ∷ 4 ∷ 8 ∷ 11 ∷ 14 ∷ 17 ∷ 20 ∷ 7 ∷ []

unfoldable pub turned_columns_left : List ℕ
turned_columns_left = 0 ∷ 1 ∷ 2 ∷ 3 ∷ 0 ∷ 1 ∷ 2 ∷ 3 ∷ 4 ∷ 5 ∷ 7 ∷ 5 ∷ 6 ∷ 7 ∷ 8 ∷ 9 ∷ 11 ∷ 9 ∷ 10 ∷ 11 ∷ 7 ∷ []

unfoldable pub turned_values_left : List Float
turned_values_left =
    reals (over 3 4 ∷ over 3 4 ∷ over 1 4 ∷ over 1 4 ∷ over 1 4 ∷ over 1 4 ∷ over 3 4 ∷ over 3 4 ∷ [])
    ++ reals (over 1 1 ∷ over 1 2 ∷ over 1 2 ∷ over 1 2 ∷ over 1 1 ∷ over 1 2 ∷ [])
    ++ reals (over 1 1 ∷ over 1 2 ∷ over 1 2 ∷ over 1 2 ∷ over 1 1 ∷ over 1 2 ∷ [])
    ++ seven_numbers 1

-- Galerkin: each row is full; between components the sums cancel to +0
unfoldable pub galerkin_columns_left : List ℕ
galerkin_columns_left =
    0 ∷ 1 ∷ 2 ∷ 3 ∷ 4 ∷ 5 ∷ 0 ∷ 1 ∷ 2 ∷ 3 ∷ 4 ∷ 5 ∷ 0 ∷ 1 ∷ 2 ∷ 3 ∷ 4 ∷ 5 ∷ 0 ∷ 1 ∷ 2 ∷ 3 ∷ 4 ∷ 5 ∷ 0 ∷ 1 ∷ 2 ∷ 3 ∷ 4 ∷ 5 ∷ 0 ∷ 1 ∷ 2 ∷ 3 ∷ 4 ∷ 5 ∷ 7 ∷ []

unfoldable pub galerkin_values_left : List Float
galerkin_values_left =
    reals (over 3 4 ∷ over 5 4 ∷ zero_f ∷ zero_f ∷ zero_f ∷ zero_f ∷ [])
    ++ reals (over 5 4 ∷ over 3 4 ∷ zero_f ∷ zero_f ∷ zero_f ∷ zero_f ∷ [])
    ++ reals (zero_f ∷ zero_f ∷ over 1 2 ∷ over 3 2 ∷ zero_f ∷ zero_f ∷ [])
    ++ reals (zero_f ∷ zero_f ∷ over 3 2 ∷ over 1 2 ∷ zero_f ∷ zero_f ∷ [])
    ++ reals (zero_f ∷ zero_f ∷ zero_f ∷ zero_f ∷ over 1 2 ∷ over 3 2 ∷ [])
    ++ reals (zero_f ∷ zero_f ∷ zero_f ∷ zero_f ∷ over 3 2 ∷ over 1 2 ∷ [])
    ++ seven_numbers 1

-- rediscretized: a lattice of 2, 1, 1 cells, 2 long on x
unfoldable pub rediscretized_columns_left : List ℕ
rediscretized_columns_left =
    0 ∷ 1 ∷ 2 ∷ 3 ∷ 4 ∷ 5 ∷ 0 ∷ 1 ∷ 2 ∷ 3 ∷ 4 ∷ 5 ∷ 0 ∷ 1 ∷ 2 ∷ 3 ∷ 4 ∷ 0 ∷ 1 ∷ 2 ∷ 3 ∷ 5 ∷ 0 ∷ 1 ∷ 2 ∷ 4 ∷ 5 ∷ 0 ∷ 1 ∷ 3 ∷ 4 ∷ 5 ∷ 7 ∷ []

unfoldable pub rediscretized_values_left : List Float
rediscretized_values_left =
    reals (over 1 2 ∷ over 1 2 ∷ zero_f ∷ zero_f ∷ zero_f ∷ zero_f ∷ [])
    ++ reals (over 1 2 ∷ over 1 2 ∷ zero_f ∷ zero_f ∷ zero_f ∷ zero_f ∷ [])
    ++ reals (zero_f ∷ zero_f ∷ over 1 2 ∷ over 1 2 ∷ zero_f ∷ [])
    ++ reals (zero_f ∷ zero_f ∷ over 1 2 ∷ over 1 2 ∷ zero_f ∷ [])
    ++ reals (zero_f ∷ zero_f ∷ zero_f ∷ over 1 2 ∷ over 1 2 ∷ [])
    ++ reals (zero_f ∷ zero_f ∷ zero_f ∷ over 1 2 ∷ over 1 2 ∷ [])
    ++ seven_numbers 1

-- twelve volumes of 1, six shares of 2
unfoldable pub scaling_left : List Float
scaling_left = ones 12 ++ reals (replicate 6 (over 1 2)) ++ seven_numbers 1

unfoldable pub galerkin_left : Store
galerkin_left =
    lent ends_left (ones 18 ++ seven_numbers 1)
    forward_starts_left forward_columns_left forward_values_left
    turned_starts_left turned_columns_left turned_values_left
    (0 ∷ 6 ∷ 12 ∷ 18 ∷ 24 ∷ 30 ∷ 36 ∷ 7 ∷ []) galerkin_columns_left galerkin_values_left
    (seven_numbers 1)

unfoldable pub rediscretized_left : Store
rediscretized_left =
    lent ends_left (ones 24 ++ seven_numbers 1)
    forward_starts_left forward_columns_left forward_values_left
    turned_starts_left turned_columns_left turned_values_left
    (0 ∷ 6 ∷ 12 ∷ 17 ∷ 22 ∷ 27 ∷ 32 ∷ 7 ∷ []) rediscretized_columns_left rediscretized_values_left
    scaling_left

-- ---- the table

unfoldable pub galerkin_rows : List Case
galerkin_rows = setting (setup_of (four_cells Galerkin) (ones 12) galerkin_lent) (result_of (accepted 2) galerkin_left)

unfoldable pub rediscretized_rows : List Case
rediscretized_rows = setting (setup_of (four_cells Rediscretized) (ones 12) rediscretized_lent) (result_of (accepted 2) rediscretized_left)

unfoldable pub table : List Case
table = Below.table ++ (galerkin_rows ++ rediscretized_rows)
