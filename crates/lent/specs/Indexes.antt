-- Entries by bucket, each bucket from its newest entry to its oldest.
use Rattle.std.specs.Prelude.{◌≡◌, ℕ, zero, suc, ◌+◌, ◌*◌, ◌%◌, ◌<◌, List, length, fold, ◌==◌, ◌≢◌, slice_index, None, Option, Some, cond}
use Rattle.base.specs.Names.{Name}
use Rattle.lent.specs.declared.index.Index.{Index}

-- the hash of a name's bytes
abbrev pub hash : Name → ℕ
hash w = fold (λ h c. (h * 31 % 4294967296 + c) % 4294967296) 7 w

-- the bucket of a name, of count buckets; 0 where there are none
abbrev pub bucket_of : Name → ℕ → ℕ
bucket_of w count = cond (count == 0) 0 (hash w % count)

-- the entry that a word stands for: one less, and none at 0
abbrev pub entry_of : ℕ → Option ℕ
entry_of zero = None
entry_of (suc e) = Some e

-- the word for the newest of the first n entries in bucket h, where bs has the bucket of each entry
abbrev pub newest : List ℕ → ℕ → ℕ → ℕ
newest bs h zero = 0
newest bs h (suc n) = cond (slice_index bs n == h) (suc n) (newest bs h n)

-- the words have the newest of the first n entries for each bucket, and the next older one for each entry
pub record Indexed (heads next bs : List ℕ) (n : ℕ) : Type 0 where
  pub by_bucket : (h : ℕ) → h < length heads → slice_index heads h ≡ newest bs h n
  pub by_entry : (k : ℕ) → k < n → slice_index next k ≡ newest bs (slice_index bs k) k

-- the same of an index
abbrev pub Holds : Index → List ℕ → ℕ → Type 0
Holds x bs n = Indexed x.heads.now x.next.now bs n

-- of the first n entries, the newest in bucket h; none where there is none in it
abbrev pub IsNewest : List ℕ → ℕ → ℕ → Option ℕ → Type 0
IsNewest bs h n None = (k : ℕ) → k < n → slice_index bs k ≢ h
IsNewest bs h n (Some e) = (e < n) × (slice_index bs e ≡ h) × ((k : ℕ) → e < k → k < n → slice_index bs k ≢ h)
