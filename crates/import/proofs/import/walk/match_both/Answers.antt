-- Both imports have just taken their files, or one has refused.
use Rattle.std.proofs.Common.{◌≡◌, Ok, Err, sym, subst}
use Rattle.rows.specs.Cuts.{File}
use Rattle.import.specs.declared.answer.Unmatched.TheVariants.{NotTaken}
use Rattle.import.specs.declared.answer.Side.TheVariants.{First, Resent}
use Rattle.import.specs.Matching.{IfRefused, FilesTold}
use Rattle.import.specs.Walks.{Walked}
use Rattle.import.specs.Models.{under}
use Rattle.import.specs.News.{fresh}
use Rattle.import.specs.Scans.{Ready}
use Rattle.import.specs.States.{model_of}
use Rattle.import.specs.Tells.{new_says}
use Rattle.import.proofs.Fresh.{acceptable}
use Rattle.import.proofs.MatchLaws.{goes_past, is_refused, new_answers, new_leaves, new_left, left_again, fresh_ready}
use Rattle.import.proofs.import.walk.match_both.Goals as goal

pub returns-in-Err-clause-told : goal.returns-in-Err-clause-told
returns-in-Err-clause-told g c =
    let one = c.args.one.now in
    let m = model_of one c.args.first.now in
    is_refused (new_says m.setting.means c.args.layout.now one) c.in-Err.why (NotTaken First) _
    (new_answers m (model_of one c.new.new.self) 1 c.args.layout.now (g.R.RowRule.means c.args.rule) one c.requires.first (Err c.in-Err.why) c.in-Err.ensures.step)

pub returns-in-Err-new-clause-told : goal.returns-in-Err-new-clause-told
returns-in-Err-new-clause-told g c =
    let one = c.args.one.now in
    let other = c.args.other.now in
    let layout = c.args.layout.now in
    let m = model_of one c.args.first.now in
    let n = model_of other c.args.resent.now in
    goes_past (new_says m.setting.means layout one) (NotTaken First) (Err (NotTaken Resent c.in-Err-new.why)) _
    (new_answers m (model_of one c.new.new.self) 1 layout (g.R.RowRule.means c.args.rule) one c.requires.first (Ok c.in-Ok.field-0) c.in-Ok.ensures.step)
    (is_refused (new_says n.setting.means layout other) c.in-Err-new.why (NotTaken Resent) _
    (new_answers n (model_of other c.new-2.new.self) 2 layout (g.R.RowRule.means c.args.again) other c.requires.resent (Err c.in-Err-new.why) c.in-Err-new.ensures.step))

pub walk-requires-clause-first : goal.walk-requires-clause-first
walk-requires-clause-first g c =
    let file = c.args.one.now in
    let layout = c.args.layout.now in
    let m = model_of file c.args.first.now in
    let n = model_of file c.new.new.self in
    let rule = g.R.RowRule.means c.args.rule in
    let a = acceptable m.setting.means layout file (new_answers m n 1 layout rule file c.requires.first (Ok c.in-Ok.field-0) c.in-Ok.ensures.step) in
    let f : File file = record { bytes = λ i. (c.type_inv.one i).fits; fits = a.fits } in
    subst (Ready file) (sym (new_leaves m n 1 layout rule file c.requires.first c.in-Ok.field-0 c.in-Ok.ensures.step)) (fresh_ready rule m.setting.means layout file 1 (g.met.R.RowRule.lawful c.args.rule) f)

pub walk-requires-clause-resent : goal.walk-requires-clause-resent
walk-requires-clause-resent g c =
    let file = c.args.other.now in
    let layout = c.args.layout.now in
    let m = model_of file c.args.resent.now in
    let n = model_of file c.new-2.new.self in
    let rule = g.R.RowRule.means c.args.again in
    let a = acceptable m.setting.means layout file (new_answers m n 2 layout rule file c.requires.resent (Ok c.in-Ok-new.field-0) c.in-Ok-new.ensures.step) in
    let f : File file = record { bytes = λ i. (c.type_inv.other i).fits; fits = a.fits } in
    subst (Ready file) (sym (new_leaves m n 2 layout rule file c.requires.resent c.in-Ok-new.field-0 c.in-Ok-new.ensures.step)) (fresh_ready rule m.setting.means layout file 2 (g.met.R.RowRule.lawful c.args.again) f)

pub returns-clause-told : goal.returns-clause-told
returns-clause-told g c =
    let one = c.args.one.now in
    let other = c.args.other.now in
    let layout = c.args.layout.now in
    let rule = g.R.RowRule.means c.args.rule in
    let again = g.R.RowRule.means c.args.again in
    let m = model_of one c.args.first.now in
    let n = model_of other c.args.resent.now in
    let a = model_of one c.new.new.self in
    let b = model_of other c.new-2.new.self in
    let s = under rule m.setting.means layout in
    let t = under again n.setting.means layout in
    let res = c.walk.result in
    let here : a ≡ fresh s 1 one = new_leaves m a 1 layout rule one c.requires.first c.in-Ok.field-0 c.in-Ok.ensures.step in
    let there : b ≡ fresh t 2 other = new_leaves n b 2 layout again other c.requires.resent c.in-Ok-new.field-0 c.in-Ok-new.ensures.step in
    let files : FilesTold res s one t other = subst (λ x. Walked 1 x (fresh t 2 other) res) here (subst (λ y. Walked 1 a y res) there c.walk.ensures.told) in
    goes_past (new_says m.setting.means layout one) (NotTaken First) res (IfRefused (new_says n.setting.means layout other) (NotTaken Resent) res (FilesTold res s one t other))
    (new_answers m a 1 layout rule one c.requires.first (Ok c.in-Ok.field-0) c.in-Ok.ensures.step)
    (goes_past (new_says n.setting.means layout other) (NotTaken Resent) res (FilesTold res s one t other)
    (new_answers n b 2 layout again other c.requires.resent (Ok c.in-Ok-new.field-0) c.in-Ok-new.ensures.step) files)

-- no row is open in either
pub returns-in-Err-clause-first_left : goal.returns-in-Err-clause-first_left
returns-in-Err-clause-first_left g c =
    let one = c.args.one.now in
    new_left (model_of one c.args.first.now) (model_of one c.new.new.self) 1 c.args.layout.now (g.R.RowRule.means c.args.rule) one c.requires.first (Err c.in-Err.why) c.in-Err.ensures.step

pub returns-in-Err-new-clause-first_left : goal.returns-in-Err-new-clause-first_left
returns-in-Err-new-clause-first_left g c =
    let one = c.args.one.now in
    new_left (model_of one c.args.first.now) (model_of one c.new.new.self) 1 c.args.layout.now (g.R.RowRule.means c.args.rule) one c.requires.first (Ok c.in-Ok.field-0) c.in-Ok.ensures.step

pub returns-in-Err-new-clause-resent_left : goal.returns-in-Err-new-clause-resent_left
returns-in-Err-new-clause-resent_left g c =
    let other = c.args.other.now in
    new_left (model_of other c.args.resent.now) (model_of other c.new-2.new.self) 2 c.args.layout.now (g.R.RowRule.means c.args.again) other c.requires.resent (Err c.in-Err-new.why) c.in-Err-new.ensures.step

pub returns-clause-first_left : goal.returns-clause-first_left
returns-clause-first_left g c =
    let one = c.args.one.now in
    let m = model_of one c.args.first.now in
    let a = model_of one c.new.new.self in
    left_again m a (model_of one c.walk.new.first) (new_left m a 1 c.args.layout.now (g.R.RowRule.means c.args.rule) one c.requires.first (Ok c.in-Ok.field-0) c.in-Ok.ensures.step) c.walk.ensures.first_left

pub returns-clause-resent_left : goal.returns-clause-resent_left
returns-clause-resent_left g c =
    let other = c.args.other.now in
    let n = model_of other c.args.resent.now in
    let b = model_of other c.new-2.new.self in
    left_again n b (model_of other c.walk.new.resent) (new_left n b 2 c.args.layout.now (g.R.RowRule.means c.args.again) other c.requires.resent (Ok c.in-Ok-new.field-0) c.in-Ok-new.ensures.step) c.walk.ensures.resent_left
