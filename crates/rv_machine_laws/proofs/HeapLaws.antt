-- The laws of places in the heap, from the layers below.
use Rattle.buddy_heap.specs.Places.{PlaceIsLeast}
use Rattle.size_table.specs.Pads.{ExponentIsLeast}

pub record HeapLaws : Type 0 where
  pub place : PlaceIsLeast
  pub exponent : ExponentIsLeast
