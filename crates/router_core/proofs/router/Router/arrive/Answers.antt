use Rattle.std.proofs.Common.{arith}
use Rattle.std.proofs.lemmas.Result.{IfOk-weaker}
use Rattle.ripng_wire.proofs.OneReading.{one_reading}
use Rattle.router_core.proofs.RouterSteps.{length-spelled}
use Rattle.router_core.proofs.router.Router.arrive.Goals as goal

pub returns-in-Response-clause-empty_is_free : goal.returns-in-Response-clause-empty_is_free
returns-in-Response-clause-empty_is_free g c = λ empty. c.hear.ensures.empty_is_free ((one_reading _ _ _ _ _ c.in-Ok.ensures.read empty).1)

pub returns-in-Request-clause-few : goal.returns-in-Request-clause-few
returns-in-Request-clause-few g c =
    let all = length-spelled _ _ _ c.in-Ok.ensures.read in
    IfOk-weaker c.reply.result _ _ (λ answer few. omega (arith, few, all)) c.reply.ensures.few
