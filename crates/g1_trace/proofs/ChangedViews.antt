-- What each effect makes of a view.
use Rattle.std.specs.Prelude.{◌≡◌, ◌≢◌, ℕ, suc, replicate, slice_set}
use Rattle.g1_trace.specs.Commands.{View}
use Rattle.g1_trace.specs.Views.{Seen}

-- t is v except for a root
pub record IsRootSet (v : View) (r x : ℕ) (t : View) : Type 0 where
  pub roots : t.roots ≡ slice_set v.roots r x
  pub slots : (b : ℕ) → Seen v b → t.slots b ≡ v.slots b
  pub values : (b : ℕ) → Seen v b → t.values b ≡ v.values b

-- t is v except for a slot of object a
pub record IsSlotSet (v : View) (a p x : ℕ) (t : View) : Type 0 where
  pub roots : t.roots ≡ v.roots
  pub written : t.slots a ≡ slice_set (v.slots a) p x
  pub slots : (b : ℕ) → Seen v b → b ≢ a → t.slots b ≡ v.slots b
  pub values : (b : ℕ) → Seen v b → t.values b ≡ v.values b

-- t is v except for a data word of object a
pub record IsValueSet (v : View) (a p x : ℕ) (t : View) : Type 0 where
  pub roots : t.roots ≡ v.roots
  pub written : t.values a ≡ slice_set (v.values a) p x
  pub slots : (b : ℕ) → Seen v b → t.slots b ≡ v.slots b
  pub values : (b : ℕ) → Seen v b → b ≢ a → t.values b ≡ v.values b

-- t is v with a new object a, which a root names now and nothing named before
pub record IsMade (v : View) (a r refs words : ℕ) (t : View) : Type 0 where
  pub fresh : Seen v a → ⊥
  pub roots : t.roots ≡ slice_set v.roots r (suc a)
  pub new_slots : t.slots a ≡ replicate refs 0
  pub new_values : t.values a ≡ replicate words 0
  pub slots : (b : ℕ) → Seen v b → t.slots b ≡ v.slots b
  pub values : (b : ℕ) → Seen v b → t.values b ≡ v.values b
