use Rattle.std.proofs.Common.{rules, arith, ◌∙◌}
use Rattle.text.proofs.HexLaws.{decoded_none, first_pair, byte_fits, decoded_more, decoded}
use Rattle.text.proofs.decode_bytes.Goals as goal

pub loop-i-init : goal.loop-i-init
loop-i-init c = (search rules, search rules, search rules, decoded_none _ c.requires.digits_value (search rules) (search rules))

pub hex_byte-requires : goal.hex_byte-requires
hex_byte-requires c =
    let s = c.in-Some.ensures.steps.0.1 in
    first_pair _ _ _ _ _ c.loop-i.invariant.3 s.0 (s.1 ∙ c.loop-i.invariant.2)

pub bounds-bytes-i : goal.bounds-bytes-i
bounds-bytes-i c =
    let s = c.in-Some.ensures.steps in
    omega (arith, s.1, byte_fits _ _ _ _ _ c.loop-i.invariant.3 s.0.1.0 (s.0.1.1 ∙ c.loop-i.invariant.2) c.requires.digits_len_bound)

pub loop-i-preserved : goal.loop-i-preserved
loop-i-preserved c =
    let s = c.in-Some.ensures.steps in (
      search rules,
      search rules,
      search rules,
      rw s.1 (decoded_more _ _ _ _ _ c.loop-i.invariant.3 s.0.1.0 (s.0.1.1 ∙ c.loop-i.invariant.2) _ s.2
          (byte_fits _ _ _ _ _ c.loop-i.invariant.3 s.0.1.0 (s.0.1.1 ∙ c.loop-i.invariant.2) c.requires.digits_len_bound) c.hex_byte.ensures),
    )

pub returns : goal.returns
returns c = let s = c.in-None.ensures.steps.0.1.0 in decoded _ _ _ _ _ (omega arith) c.requires.digits_len_bound c.loop-i.invariant.3
