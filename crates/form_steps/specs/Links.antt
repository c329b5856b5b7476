-- Links of layers that keep an assignment as the first bits of its states.
use Rattle.std.specs.Prelude.{◌≤◌, take}
use Rattle.form_steps.specs.declared.layer.BitsLink.{BitsLink}
use Rattle.form_steps.specs.Relations.{Decoding}

-- The first bits of a state are the assignment. What a layer adds stands after the assignment's
-- bits, and is dropped.
abbrev pub first_bits : BitsLink → Decoding
first_bits link = record {
  source_width = link.source_width;
  target_width = link.target_width;
  decoded = λ y. take link.source_width y;
}

-- A state has at least the bits of an assignment. So each state has bits enough to decode it.
abbrev pub HasFirstBits : BitsLink → Type 0
HasFirstBits link = link.source_width ≤ link.target_width
