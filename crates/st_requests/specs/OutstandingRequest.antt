-- What an outstanding request shows.
use Rattle.st_rules.specs.declared.client.Request.{Request}
use Rattle.st_requests.specs.declared.outstanding_request.OutstandingRequest.{OutstandingRequest}
use Rattle.st_requests.specs.ServerRequests.{Under}

-- the request
abbrev pub request_of : OutstandingRequest → Request
request_of a = a.request

-- the life and the epoch under which it was asked
abbrev pub under_of : OutstandingRequest → Under
under_of a = record { life = a.life; epoch = a.epoch }
