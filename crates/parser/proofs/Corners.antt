-- The corner sheets, computed.
use mathlib.Core.Path.{refl}
use Rattle.model.specs.Range.{cat}
use Rattle.text.specs.Text.{text, starts_with, lines_of, number_of, hex_pairs, hex_bytes}
use Rattle.lines.specs.Line.{name, takes, named, value_of, good_line}
use Rattle.parser.specs.Script.{first_bad, verdict, group_of, first_groups, groups_of, default_backups, blocks_line, sizes_of, parse_by}
use Rattle.parser.specs.Corners.{all_given, Corners}

pub corners : Corners
unfolding cat text starts_with lines_of number_of hex_pairs hex_bytes name takes named value_of good_line first_bad verdict group_of first_groups groups_of default_backups blocks_line sizes_of parse_by all_given
corners = record { sizes = refl; groups = refl; example = refl; two = refl; halves = record { one = refl; two = refl; three = refl; four = refl }; longest = refl; longer = refl; digits = (refl, refl, refl) }
