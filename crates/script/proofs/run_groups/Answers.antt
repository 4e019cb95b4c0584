use Rattle.std.proofs.Common.{◌≡◌, ◌<◌, length, arith, refl, add-one, ◌∙◌}
use Rattle.std.proofs.lemmas.Bool.Decides.{nat_tests}
use Rattle.parser.proofs.GroupLaws.{groups_end, group_next}
use Rattle.script.specs.SheetRan.{groups_from, group_in}
use Rattle.script.proofs.GroupLaws.{digits_fit, group_first, good_rest}
use Rattle.script.proofs.Story.{story_none, story_more, story_end}
use Rattle.script.proofs.run_groups.Goals as goal

pub loop-rest-init : goal.loop-rest-init
loop-rest-init c =
    (c.requires.good, omega arith, omega arith, record { same = refl; size = refl }, omega arith, refl, story_none c.args.sheet.now _ _)

pub run_read-requires : goal.run_read-requires
run_read-requires c =
    let l = c.loop-rest in
    let some : 0 < length l.rest.now = grind (arith, nat_tests) in
    let n = group_next _ l.invariant.0.0 l.invariant.0.1 some _ c.group_at-read.ensures.reads in
    record {
      digits = digits_fit _ l.invariant.0 some _ c.group_at-read.ensures.reads;
      image = omega (arith, l.invariant.3.size, c.requires.image);
      room = record { room = omega (arith, n, c.requires.room.room, l.invariant.4, l.invariant.5) };
    }

pub loop-rest-preserved : goal.loop-rest-preserved
loop-rest-preserved c =
    let l = c.loop-rest in
    let r = c.group_at-read.result in
    let some : 0 < length l.rest.now = grind (arith, nat_tests) in
    let n = group_next _ l.invariant.0.0 l.invariant.0.1 some _ c.group_at-read.ensures.reads in
    let x = c.run_read.ensures in (
      good_rest _ l.invariant.0 some _ c.group_at-read.ensures.reads,
      omega arith,
      omega (arith, n, l.invariant.2),
      record { same = x.kept.same ∙ l.invariant.3.same; size = x.kept.size ∙ l.invariant.3.size },
      omega (arith, n, x.grown.upper_bound, l.invariant.4),
      x.grown.size ∙ l.invariant.5,
      rw add-one (story_more c.args.sheet.now (groups_from c.args.input.now) c.args.page.now l.sheet l.n (groups_from l.rest.now) l.page l.invariant.6
          (group_in r) _ c.run_read.new.sheet c.run_read.new.page (group_first _ l.invariant.0 some _ c.group_at-read.ensures.reads) x.group_ran),
    )

pub loop-rest-smaller : goal.loop-rest-smaller
loop-rest-smaller c =
    let l = c.loop-rest in
    let some : 0 < length l.rest.now = grind (arith, nat_tests) in
    omega (arith, group_next _ l.invariant.0.0 l.invariant.0.1 some _ c.group_at-read.ensures.reads)

pub returns : goal.returns
returns c =
    let l = c.loop-rest in
    let none : length l.rest.now ≡ 0 = grind (arith, nat_tests) in
    story_end c.args.sheet.now _ c.args.page.now l.sheet _ _ l.page l.invariant.6 (groups_end _ none)
