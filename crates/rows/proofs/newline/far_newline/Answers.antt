-- The first step over the places of 0A finds the first of them.
use Rattle.memchr.specs.Find.{is_byte}
use Rattle.rows.proofs.FirstPlaces.{first_place}
use Rattle.rows.proofs.newline.far_newline.Goals as goal

pub returns : goal.returns
returns c = first_place (is_byte 10) c.args.rest.now c.next.result _ _ c.memchr_iter.ensures.value c.next.ensures.steps
