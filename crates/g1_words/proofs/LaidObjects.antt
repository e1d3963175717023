-- The objects of a valid heap are in memory, if the used words of its regions are.
use Rattle.std.proofs.Common.{ℕ, ◌+◌, ◌-◌, ◌*◌, ◌%◌, ◌<◌, ◌≤◌, ◌≡◌, Contains, arith, div-add-mod', mod-lt}
use Rattle.g1_words.specs.Heap.{Heap, objects, region_of}
use Rattle.g1_words.specs.Valid.{IsValid}
use Rattle.g1_words.specs.Words.{AreLaid}
use Rattle.g1_words.specs.declared.object.Object.{Object}
use Rattle.g1_words.proofs.Shapes.{built}
use Rattle.g1_words.proofs.Standing.{home, stands_refs, w_pos, word_used}

pub object_laid : (h : Heap) (laid : ℕ) (o : Object) → IsValid h → AreLaid h.geometry.w h.regions laid → Contains (objects h) o →
    (o.refs < o.size) × (o.at + o.size ≤ laid)
object_laid h laid o valid are c =
    let b = built h valid in
    let s = home h b o c in
    let fit = stands_refs h b s.0 o s.2 in
    let last : ℕ = o.at + (o.size - 1) in
    let used = word_used h b s.0 o (o.size - 1) s.2 (omega (arith, fit)) in
    let r : ℕ = region_of h last in
    let i : ℕ = last % h.geometry.w in
    let sum : r * h.geometry.w + i ≡ last = div-add-mod' last h.geometry.w in
    let within : r * h.geometry.w + i < laid = are r i (omega (arith, used.0, valid.region_count)) (mod-lt last (w_pos h b)) (omega (arith, used.2, sum)) in
    (fit, omega (arith, fit, sum, within))
