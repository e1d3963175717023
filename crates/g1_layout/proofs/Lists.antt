-- Lemmas of g1_words, by the names that crates above import.
pub use Rattle.g1_words.proofs.Lists.{range_more as range-more, filter_range_yes as filter_more_yes, filter_range_no as filter_more_no}
