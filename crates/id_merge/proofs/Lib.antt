mod LinesLemmas
mod KnownLemmas
mod MergingLemmas
mod GivenLemmas
