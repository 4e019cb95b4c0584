-- What a served read may go by, and that the block it finds lies inside the image.
use Prim.Native.Nat.{ℕ, ◌+◌, ◌*◌, ◌≤◌, ◌<◌}
use mathlib.Core.Path.{◌≡◌, sym, ◌∙◌, subst}
use mathlib.Core.Bool.{true, false}
use mathlib.Core.List.{◌++◌}
use native.Mathlib.Omega.{arith}
use lib.ListN.{length}
use borrow.Author.Tests.{leb-false, eq-eqb, eqb-true}
use Rattle.model.specs.declared.Layout.{Layout}
use Rattle.model.specs.declared.Refusal.{Refusal}
use Rattle.std.specs.Prelude.{Option, Some}
use Rattle.model.specs.Words.{Image}
use Rattle.model.specs.Layout.{SizesOk, segment_size, image_size, main_at}
use Rattle.model.specs.Status.{refusal_number, Errors, first_error, served}
use Rattle.model.specs.Container.{active_line, checkpoint_located, container_errors, main_errors, block_errors}
use Rattle.model.specs.Reads.{read_status, part_of, no_part, block_part, located_part, working_part, checkpoint_part}
use Rattle.model.proofs.Laws.Status.{served_condition, stage_refused, after-served, refusal_refuses}
use Rattle.model.proofs.Laws.Container.{ContainerOk, container_then}
use Rattle.model.proofs.Laws.Layout.{metadata_inside, segment_in_image}
use Rattle.places.proofs.PlaceLaws.{image_bound}
use Rattle.metadata.proofs.LocatedLaws.{Inside, located_inside}
use Rattle.model.specs.Reads as model
use Rattle.reads.specs.declared.Part.{Part}
use Rattle.reads.specs.Answered.{Answered}

module _ (l : Layout) (I : Image) (i b : ℕ) where
  -- ---- the status

  abbrev pub read_more : Errors
  read_more = main_errors l i ++ block_errors l b

  -- refused for the image, or judged by the place
  pub image_refused : (r : Refusal) → refusal_number r ≡ first_error (container_errors l I) → refusal_number r ≡ read_status l I i b
  unfolding read_status
  image_refused r e = stage_refused _ (container_errors l I) read_more e (refusal_refuses r)

  pub image_passed : (n : ℕ) → 0 ≡ first_error (container_errors l I) → n ≡ first_error read_more → n ≡ read_status l I i b
  unfolding read_status
  image_passed n e h = h ∙ sym (after-served (container_errors l I) read_more (omega arith) (sym e))

  -- ---- a served read

  pub record Readable : Type 0 where
    pub ok : ContainerOk l I
    pub sizes : SizesOk l
    pub long : length I ≡ image_size l
    pub metadata : 512 ≤ length I
    pub most : length I ≤ 2097664
    pub main : i < l.mains
    pub block : b < l.blocks

  pub readable : served (read_status l I i b) ≡ true → Readable
  unfolding read_status image_size
  readable h =
      let k = container_then l I read_more (eqb-true _ _ h) in
      let s = k.0.sizes in
      record {
        ok = k.0;
        sizes = s;
        long = k.0.long;
        metadata = omega (arith, k.0.long, metadata_inside l);
        most = omega (arith, k.0.long, image_bound l.blocks (l.mains + l.backups) (omega arith) (omega arith));
        main = leb-false _ _ (served_condition read_more (omega arith) k.1 6);
        block = leb-false _ _ (served_condition read_more (omega arith) k.1 7);
      }

  -- the same, of the number as the code has it
  pub accepted : 0 ≡ read_status l I i b → Readable
  accepted e = readable (eq-eqb _ 0 (sym e))

  -- where the block stands lies inside the image
  pub main_inside : Readable → main_at l i + 256 * b + 256 ≤ length I
  main_inside r = let e = r.long in let m = r.main in let q = r.block in omega (arith, segment_in_image l i (omega arith))

  pub located_block : Readable → (p : ℕ) → Some p ≡ checkpoint_located l I (active_line I) i → p + 256 * b + 256 ≤ length I
  located_block r p e =
      let s : p + segment_size l ≤ length I = subst (Inside l I) (sym e) (located_inside l I (active_line I) i r.ok.valid r.main r.long) in
      let q = r.block in
      omega arith

  -- ---- the parts

  pub working_refused : served (read_status l I i b) ≡ false → working_part l I i b ≡ no_part
  unfolding working_part
  working_refused n = rw n

  pub working_served : served (read_status l I i b) ≡ true → working_part l I i b ≡ block_part (main_at l i) b
  unfolding working_part
  working_served e = rw e

  pub checkpoint_refused : served (read_status l I i b) ≡ false → checkpoint_part l I i b ≡ no_part
  unfolding checkpoint_part
  checkpoint_refused n = rw n

  pub checkpoint-served : (x : Option ℕ) → served (read_status l I i b) ≡ true → x ≡ checkpoint_located l I (active_line I) i → checkpoint_part l I i b ≡ located_part x b
  unfolding checkpoint_part
  checkpoint-served x e h = rw (e, ← h)

-- ---- what the code answers

answered_by : {I : Image} {p q : model.Part} {r : Part} → p ≡ q → Answered I q r → Answered I p r
answered_by {I} {r = r} e f = subst (λ (x : model.Part). Answered I x r) (sym e) f

pub answered_block : (I : Image) (p : model.Part) (r : Part) (a c b : ℕ) → (r.start ≡ a + 256 * b) × (r.size ≡ 256) → a ≡ c → p ≡ block_part c b
    → c + 256 * b + 256 ≤ length I → Answered I p r
answered_block I p r a c b h q e l = answered_by e (record { start = omega arith; size = h.1; inside = omega arith })
