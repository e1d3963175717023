-- The words for what a heap loses.
use Rattle.std.specs.Prelude.{ℕ, List, ◌++◌, codes, decimal}
use Rattle.g1_kept.specs.declared.lost.Lost.{Lost}
use Rattle.g1_kept.specs.declared.lost.Lost.TheVariants as lost

-- THE TEXT of a loss: what is lost, by number or by addresses before and after
abbrev pub lost_text : Lost → List ℕ
lost_text lost.Sizes = codes "sizes: the heaps have other regions"
lost_text lost.Roots = codes "roots: the heaps have other numbers of roots"
lost_text (lost.Set r) = codes "region " ++ (decimal r ++ codes ": in the set, and not free after")
lost_text (lost.Region r) = codes "region " ++ (decimal r ++ codes ": outside the set, with another kind or top after")
lost_text (lost.Unpinned r) = codes "region " ++ (decimal r ++ codes ": outside the set, pinned before and not after")
lost_text (lost.Pinned r) = codes "region " ++ (decimal r ++ codes ": outside the set, pinned after and not before")
lost_text (lost.Copy a b) = codes "object " ++ (decimal a ++ (codes ": " ++ (decimal b ++ codes " after is in a region that was not free")))
lost_text (lost.Header a b) = codes "object " ++ (decimal a ++ (codes ": " ++ (decimal b ++ codes " after has another size or number of slots")))
lost_text (lost.Data a b k) = codes "object " ++ (decimal a ++ (codes ": data word " ++ (decimal k ++ (codes " is another in " ++ (decimal b ++ codes " after")))))
lost_text (lost.Slot a b n) = codes "object " ++ (decimal a ++ (codes ": slot " ++ (decimal n ++ (codes " in " ++ (decimal b ++ codes " after references another object, or none")))))
lost_text (lost.Root n) = codes "root " ++ (decimal n ++ codes ": another object after, or none")
