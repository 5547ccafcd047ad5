-- Keys and signatures are bytes where their inputs are. Assumes nothing.
use mathlib.Core.List.{List}
use Prim.Native.Nat.{ℕ, ◌+◌, ◌*◌, ◌^◌, ◌<◌}
use Rattle.octets.proofs.Xor.{⊕-lt}
use Rattle.octets.specs.Lists.{zero16, Bytes}
use Rattle.algebra.specs.Line.{Batch, none, rows, batch}
use Rattle.field.proofs.Sum.{sum_lt, dot-lt}
use Rattle.octets.proofs.Each.{bytes-flat, bytes-get_or}
use Rattle.tree.proofs.Bounds.{bytes-tree, bytes-tree-path}
use Rattle.tree.specs.Tree.{KeepsBytes}
use Rattle.paper.specs.Symmetric.{derive, commit_first, for_key, for_alphas, for_commitment}
use Rattle.paper.specs.Keys.{values_at, solution_of, drawn, key_gen}
use Rattle.paper.specs.Commit.{derive_in, leaf_com, tape, x_part, u_part, rseed, lseed, lscom, path_at, tape_at, correction, sent_at, com1, com1_from, opening}
use Rattle.paper.specs.Alpha.{Variant, alpha1_at, com2_from}
use Rattle.paper.specs.Scheme.{sign_com1, sign_com2, sign_alpha1, sign_with}
use Rattle.octets.proofs.Bounds.{bytes-append, bytes-at, bytes-part, bytes-joined, bytes-bytes_of, bytes-zero16, bytes-tab}
use Rattle.paper.proofs.Symmetric.{bytes-xof, bytes-hash, bytes-tweak, bytes-derive, bytes-commit, bytes-prg}

-- ---- the commitment

module _ (mseed salt x : List ℕ) (pm : Bytes mseed) (ps : Bytes salt) (px : Bytes x) where
  keeps : (e : ℕ) → KeepsBytes (derive_in salt e)
  unfolding KeepsBytes derive_in
  keeps e j s p = bytes-derive _ s (bytes-tweak salt derive e j ps) p

  bytes-rseed : (e : ℕ) → Bytes (rseed mseed e)
  unfolding rseed
  bytes-rseed e = bytes-part (16 * e) 16 _ (bytes-prg zero16 0 mseed 272 bytes-zero16 pm)

  bytes-lseed : (e k : ℕ) → Bytes (lseed mseed salt x e k)
  unfolding lseed
  bytes-lseed e k = bytes-get_or _ k (bytes-tree (derive_in salt e) (keeps e) 7 _ _ (bytes-rseed e) (bytes-part 0 16 x px))

  bytes-lscom : (e k : ℕ) → Bytes (lscom mseed salt x e k)
  unfolding lscom leaf_com
  bytes-lscom e k = bytes-commit _ _ (bytes-tweak salt commit_first e 0 ps) (bytes-lseed e k)

  bytes-path : (e i : ℕ) → Bytes (path_at mseed salt x e i)
  unfolding path_at
  bytes-path e i = bytes-flat _ (bytes-tree-path (derive_in salt e) (keeps e) 7 i _ _ (bytes-rseed e) (bytes-part 0 16 x px))

  module _ (η : ℕ) where
    bytes-tape : (e k : ℕ) → Bytes (tape_at η mseed salt x e k)
    unfolding tape_at tape
    bytes-tape e k = bytes-append _ _ (bytes-lseed e k) (bytes-prg salt e _ (12 + η) ps (bytes-lseed e k))

    pub bytes-correction : (e : ℕ) → Bytes (correction η mseed salt x e)
    unfolding correction x_part
    bytes-correction e =
        bytes-tab 28 _ (λ b h. ⊕-lt 8 (bytes-at x px b) (sum_lt 8 256 _ (λ k hk. bytes-at _ (bytes-part 0 28 _ (bytes-tape e k)) b)))

    pub bytes-sent : (e : ℕ) → Bytes (sent_at η mseed salt x e)
    unfolding sent_at
    bytes-sent e = bytes-part 16 12 _ (bytes-correction e)

    pub bytes-opening : (i : ℕ → ℕ) → Bytes (opening η mseed salt x i)
    unfolding opening
    bytes-opening i =
        bytes-append _ _
        (bytes-append _ _ (bytes-joined 17 _ (λ e he. bytes-path e (i e))) (bytes-joined 17 _ (λ e he. bytes-lscom e (i e))))
        (bytes-joined 17 _ (λ e he. bytes-sent e))

-- ---- result lines

batch-lt : (m : ℕ) (B : Batch) (z : ℕ → ℕ) → ((q : ℕ) → z q < 2 ^ 8) → (j : ℕ) → batch m B z j < 2 ^ 8
unfolding batch
batch-lt m none z h j = h j
batch-lt m (rows η G) z h j = dot-lt m (G j) z

module _ (v : Variant) (c1 mseed_eq y mseed salt x : List ℕ) (pm : Bytes mseed) (ps : Bytes salt) (px : Bytes x) where
  pub bytes-alpha1 : (e : ℕ) → Bytes (alpha1_at v c1 mseed_eq y mseed salt x e)
  unfolding alpha1_at u_part
  bytes-alpha1 e =
      bytes-tab v.eta _
      (λ j h.
      ⊕-lt 8 (sum_lt 8 256 _ (λ k hk. bytes-at _ (bytes-part 28 v.eta _ (bytes-tape mseed salt x pm ps px v.eta e k)) j))
      (batch-lt 28 (v.gamma c1) _ (λ q. ⊕-lt 8 (dot-lt 56 _ _) (dot-lt 56 _ _)) j))

-- ---- signatures and keys

module _ (v : Variant) (sk msg salt mseed : List ℕ) (pk : Bytes sk) (ps : Bytes salt) (pm : Bytes mseed) where
  px : Bytes (solution_of sk)
  unfolding solution_of
  px = bytes-part 60 28 sk pk

  bytes-com1 : Bytes (sign_com1 v sk salt mseed)
  unfolding sign_com1 com1 com1_from
  bytes-com1 = bytes-hash for_commitment _

  bytes-com2 : Bytes (sign_com2 v sk salt mseed)
  unfolding sign_com2 com2_from
  bytes-com2 = bytes-hash for_alphas _

  pub bytes-sign_with : (n : ℕ) → Bytes (sign_with v sk msg salt mseed n)
  unfolding sign_with sign_alpha1
  bytes-sign_with n =
      bytes-append _ _
      (bytes-append _ _
      (bytes-append _ _ (bytes-append _ _ (bytes-append _ _ ps bytes-com1) bytes-com2)
      (bytes-joined 17 _ (λ e he. bytes-alpha1 v _ _ _ mseed salt (solution_of sk) pm ps px e)))
      (bytes-opening mseed salt (solution_of sk) pm ps px v.eta _))
      (bytes-bytes_of 4 n)

pub bytes-values : (m x : List ℕ) → Bytes (values_at m x)
unfolding values_at
bytes-values m x = bytes-tab 28 _ (λ i h. ⊕-lt 8 (dot-lt 56 _ _) (dot-lt 56 _ _))

pub bytes-key_gen : (seed_key : List ℕ) → Bytes (key_gen seed_key).pk × Bytes (key_gen seed_key).sk
unfolding key_gen drawn
bytes-key_gen seed_key =
    let d = bytes-xof for_key seed_key 60 in
    let p = bytes-append _ _ (bytes-part 28 32 _ d) (bytes-values _ _) in
    (p, bytes-append _ _ p (bytes-part 0 28 _ d))
