-- What the calls answer, in the words of document 001: algorithm 10, BLC.Commit, algorithm 11, BLC.Open, and algorithm 12, BLC.Eval, for
-- repetition e. Definitions only.
use Rattle.std.specs.Prelude.{◌≡◌, List, ℕ}
use Rattle.octets.specs.Lists.{tab}
use Rattle.folding.specs.Rows.{x_fold, u_fold, u_acc, sent, x_at, u_at}
use Rattle.paper.specs.Commit.{hash_ls_com, lscom, x0_at, u0_at, u1_at, sent_at, path_at, lscom_in, x_eval, u_eval}
use Rattle.lines.specs.declared.Lines.{Lines}
use Rattle.lines.specs.declared.Values.{Values}

-- algorithm 10
pub record Committed (mseed salt x : List ℕ) (e : ℕ) (l : Lines) : Type 0 where
  pub hash-is : l.hash ≡ hash_ls_com (lscom mseed salt x e)
  pub x0-is : l.x0 ≡ tab 56 (x0_at 28 mseed salt x e)
  pub u0-is : l.u0 ≡ tab 28 (u0_at 28 mseed salt x e)
  pub u1-is : l.u1 ≡ tab 28 (u1_at 28 mseed salt x e)
  pub correction-is : l.correction ≡ sent_at 28 mseed salt x e

-- algorithm 11, with leaf i hidden
pub record Revealed (mseed salt x : List ℕ) (e i : ℕ) (path out : List ℕ) : Type 0 where
  pub path-is : path ≡ path_at mseed salt x e i
  pub out-is : out ≡ lscom mseed salt x e i

-- algorithm 12, with leaf i hidden
pub record Evaluated (salt paths outs sents : List ℕ) (e i : ℕ) (v : Values) : Type 0 where
  pub hash-is : v.hash ≡ hash_ls_com (lscom_in salt paths outs e i)
  pub x-is : v.x ≡ tab 56 (x_eval 28 salt paths sents e i)
  pub u-is : v.u ≡ tab 28 (u_eval 28 salt paths sents e i)

-- ---- the same, of the buffer f that ComputeFolding leaves

pub record LinesOf (h f x : List ℕ) (l : Lines) : Type 0 where
  pub hash-is : l.hash ≡ h
  pub x0-is : l.x0 ≡ tab 56 (x_fold f)
  pub u0-is : l.u0 ≡ tab 28 (u_fold f)
  pub u1-is : l.u1 ≡ u_acc f
  pub correction-is : l.correction ≡ sent f x

pub record ValuesOf (h f d : List ℕ) (r : ℕ) (v : Values) : Type 0 where
  pub hash-is : v.hash ≡ h
  pub x-is : v.x ≡ tab 56 (x_at f d r)
  pub u-is : v.u ≡ tab 28 (u_at f r)
