use Rattle.std.proofs.Common.{codes, ap, ◌∙◌}
use Rattle.acd_http.specs.declared.routes.Route.TheVariants.{Services, Agent, Call, Device, Queue, Events, History, MonitorEvents, Report, Snapshot, Requests}
use Rattle.acd_http.specs.Routing.{table, add}
use Rattle.acd_http.proofs.routes.known_routes.Goals as goal

pub returns : goal.returns
unfolding table
returns c =
    c.in_ok-add-11.ensures ∙ ap (add (codes "/requests") Requests)
    (c.in_ok-add-10.ensures ∙ ap (add (codes "/history") History)
    (c.in_ok-add-9.ensures ∙ ap (add (codes "/snapshot") Snapshot)
    (c.in_ok-add-8.ensures ∙ ap (add (codes "/reports/queues") Report)
    (c.in_ok-add-7.ensures ∙ ap (add (codes "/monitors/{id}/events") MonitorEvents)
    (c.in_ok-add-6.ensures ∙ ap (add (codes "/events") Events)
    (c.in_ok-add-5.ensures ∙ ap (add (codes "/queues/{id}") Queue)
    (c.in_ok-add-4.ensures ∙ ap (add (codes "/devices/{id}") Device)
    (c.in_ok-add-3.ensures ∙ ap (add (codes "/calls/{id}") Call)
    (c.in_ok-add-2.ensures ∙ ap (add (codes "/agents/{id}") Agent)
    (c.in_ok-add.ensures ∙ ap (add (codes "/csta") Services) c.new-router.ensures))))))))))
