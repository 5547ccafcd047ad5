-- Document 01, 'Numbers that come back': how a call ends, and what that leaves of number, output and workspace. One table for all calls,
-- whatever they make. Definitions only.
use Rattle.std.specs.Prelude.{◌≡◌, Bool, cond, List, ℕ, ◌≤◌, length, replicate}

-- refused: before anything was touched (1, 2, 3); failed: after the work began (4, 5, 6); done: with what was made (0)
pub data Outcome (A : Type 0) : Type 0 where
  refused : ℕ → Outcome A
  failed : ℕ → Outcome A
  done : A → Outcome A

module _ {A : Type 0} where
  -- the column 'no.'
  abbrev pub number_of : Outcome A → ℕ
  number_of (refused n) = n
  number_of (failed n) = n
  number_of (done a) = 0

  -- the column 'output', of an output whose bytes f tells of what was made: as specified, else untouched
  abbrev pub output_of : (A → List ℕ) → Outcome A → List ℕ → List ℕ
  output_of f (refused n) out = out
  output_of f (failed n) out = out
  output_of f (done a) out = f a

  -- the column 'workspace': untouched, or all zero
  abbrev pub work_of : Outcome A → List ℕ → List ℕ
  work_of (refused n) work = work
  work_of (failed n) work = replicate (length work) 0
  work_of (done a) work = replicate (length work) 0

  -- the numbers that each way to end has
  unfoldable pub InTable : Outcome A → Type 0
  InTable (refused n) = (1 ≤ n) × (n ≤ 3)
  InTable (failed n) = (4 ≤ n) × (n ≤ 6)
  InTable (done a) = Unit {0}

  -- go on where the test holds, else end so
  abbrev pub unless : Bool → Outcome A → Outcome A → Outcome A
  unless t end on = cond t on end

  -- a call that ends as o gives number r and leaves work' where work was
  pub record Ends (o : Outcome A) (r : ℕ) (work work' : List ℕ) : Type 0 where
    pub number : r ≡ number_of o
    pub workspace : work' ≡ work_of o work

  -- and out' where an output was out
  pub record Gives (f : A → List ℕ) (o : Outcome A) (out out' : List ℕ) : Type 0 where
    pub output : out' ≡ output_of f o out
