use Rattle.std.proofs.Common.{refl}
use Rattle.vale_page.proofs.ChainLemmas.{opened}
use Rattle.vale_page.proofs.block.Block.open.Goals as goal

pub returns : goal.returns
returns g c =
    let made = c.in_ok-generations_at.ensures in (
      record {
        laid = record { generations_at = made.0; bodies_at = made.2; allocation_at = made.4; allocation_bodies = made.6; allocation_len = made.5; allocation_alloc = made.7 };
        slots = opened _ made.1 made.3 refl refl refl;
      },
      refl,
      made.1,
      made.3,
    )
